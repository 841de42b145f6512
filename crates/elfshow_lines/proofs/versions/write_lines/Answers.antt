use Rattle.std.proofs.Common.{arith}
use Rattle.std.proofs.lemmas.Grind.{common_steps}
use Rattle.elfshow_lines.proofs.Adding.{lines_written}
use Rattle.elfshow_lines.proofs.versions.write_lines.Goals as goal

pub loop-symbol-preserved : goal.loop-symbol-preserved
loop-symbol-preserved g c = grind (arith, common_steps)

pub returns : goal.returns
returns g c =
    let written = lines_written c.end-2.result _ _ _ _ _ c.loop-symbol.invariant c.end-2.ensures in
    grind (arith, common_steps, written)
