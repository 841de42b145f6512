use Rattle.std.proofs.Common.{◌≡◌, ◌+◌, ◌/◌, length, arith, ap, ◌∙◌}
use Rattle.std.proofs.lemmas.Fmt.{decimal_digit, decimal_nonempty, decimal_step, length-decimal-le}
use Rattle.std.proofs.lemmas.List.{length-append}
use Rattle.std.specs.Fmt.{decimal}
use Rattle.nugwier_layouts.proofs.text.decimal_length.Goals as goal

pub loop-left-preserved : goal.loop-left-preserved
loop-left-preserved c =
    let left = c.loop-left.left in
    let step : length (decimal left) ≡ length (decimal (left / 10)) + 1 = ap length (decimal_step left c.loop-left-test.true (omega arith)) ∙ length-append (decimal (left / 10)) _ in
    let short = length-decimal-le 20 c.args.n (omega arith) (omega arith) (omega arith) in
    let some = decimal_nonempty (left / 10) (omega arith) in
    (omega (arith, step), omega (arith, step, short, some))

pub returns : goal.returns
returns c =
    let last = ap length (decimal_digit c.loop-left.left (omega arith)) in
    omega (arith, last)
