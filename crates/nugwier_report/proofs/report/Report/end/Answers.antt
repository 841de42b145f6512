use Rattle.std.proofs.Common.{subst}
use Rattle.nugwier_report.specs.Said.{Reporting}
use Rattle.nugwier_report.specs.Texts.{AreAppended, Written}
use Rattle.nugwier_report.specs.Told.{AreTextsOfLine}
use Rattle.nugwier_report.proofs.report.Report.end.Goals as goal

pub returns-clause-written : goal.returns-clause-written
returns-clause-written g c =
    let r = c.self.inside in
    let after : Written = record { out = g.W.Write.contents r.out; err = g.V.Write.contents r.err } in
    subst (λ (t : Reporting). AreAppended (AreTextsOfLine t.format) t.is_lost r.is_told (record { out = t.start; err = t.told_start }) after t.said) c.self.view_is c.self.invariant.0
