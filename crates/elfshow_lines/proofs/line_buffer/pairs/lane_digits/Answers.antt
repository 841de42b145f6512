use Rattle.elfshow_lines.proofs.Pairs.{lanes_digits}
use Rattle.elfshow_lines.proofs.line_buffer.pairs.lane_digits.Goals as goal

pub returns : goal.returns
returns c = lanes_digits 32 c.args.numbers c.fits-numbers.0 c.requires
