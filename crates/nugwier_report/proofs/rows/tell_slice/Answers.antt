use Rattle.std.proofs.Common.{arith, sym}
use Rattle.std.proofs.lemmas.Grind.{common_steps}
use Rattle.nugwier_report.proofs.Saying.{saying_nothing}
use Rattle.nugwier_report.specs.Said.{numbered}
use Rattle.nugwier_report.proofs.rows.tell_slice.Goals as goal

pub loop-item-preserved : goal.loop-item-preserved
loop-item-preserved g c = grind (arith, common_steps)

pub returns : goal.returns
returns g c = grind (arith, common_steps)

-- a silent teller stays as it is
pub returns-then-is_silent : goal.returns-then-is_silent
returns-then-is_silent g c =
    sym (saying_nothing g.T.Tell.one c.args.tell.now (numbered (g.R.Row.said c.args.row.now) 0 c.args.items.now) (c.is_silent.ensures.nothing c.if-is_silent.true))
