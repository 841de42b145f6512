use Rattle.elfshow_lines.proofs.Pairs.{block_halves}
use Rattle.elfshow_lines.proofs.line_buffer.pairs.halves.Goals as goal

pub returns : goal.returns
returns c = block_halves c.args.bytes.now c.told-bytes
