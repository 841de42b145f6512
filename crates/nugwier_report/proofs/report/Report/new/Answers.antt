use Rattle.std.proofs.Common.{refl}
use Rattle.nugwier_report.specs.Texts.{Written}
use Rattle.nugwier_report.specs.Told.{AreTextsOfLine}
use Rattle.nugwier_report.proofs.Telling.{written_none}
use Rattle.nugwier_report.proofs.report.Report.new.Goals as goal

pub invariant_of-result : goal.invariant_of-result
invariant_of-result g c =
    let now : Written = record { out = g.W.Write.contents c.args.out; err = g.V.Write.contents c.args.err } in
    rw (c.new-log.ensures.0, c.new-told.ensures.0, c.new-log.ensures.1) (written_none (AreTextsOfLine c.args.format) now, refl)
