use Rattle.std.proofs.Common.{arith}
use Rattle.elfshow_lines.proofs.Digits.{digits_begin}
use Rattle.elfshow_lines.proofs.line_buffer.fill_digits.Goals as goal

pub loop-start-init : goal.loop-start-init
loop-start-init c = (omega arith, omega arith, digits_begin c.args.base c.args.n c.args.room.now (omega arith))
