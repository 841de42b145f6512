use Rattle.std.proofs.Common.{[], ◌∷◌}
use Rattle.std.proofs.lemmas.Result.{on_ok_weaker}
use Rattle.nugwier_sections.proofs.Told.{not_checked}
use Rattle.nugwier_report.specs.Said.{wrong}
use Rattle.nugwier_report.specs.declared.problem.Fault.TheVariants.{Read}
use Rattle.nugwier_sections.proofs.check.tell_checked.Goals as goal

pub returns-in-Err : goal.returns-in-Err
returns-in-Err g c =
    let error = c.in-Err.error in
    on_ok_weaker c.problem.result (λ told. (wrong c.whole.result (Read error) ∷ [], not_checked c.args.path.now c.args.checked error c.whole.result c.in-Err.is c.whole.ensures, told)) c.problem.ensures
