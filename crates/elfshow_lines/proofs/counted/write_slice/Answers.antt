use Rattle.std.proofs.Common.{arith}
use Rattle.std.proofs.lemmas.Grind.{common_steps}
use Rattle.elfshow_lines.proofs.Adding.{lines_before}
use Rattle.elfshow_lines.proofs.counted.write_slice.Goals as goal

pub loop-item-preserved : goal.loop-item-preserved
loop-item-preserved g c = grind (arith, common_steps)

pub returns : goal.returns
returns g c =
    let left = lines_before _ _ _ _ _ _ c.loop-item.invariant.1 c.in_ok-end.ensures in
    grind (arith, common_steps, left)
