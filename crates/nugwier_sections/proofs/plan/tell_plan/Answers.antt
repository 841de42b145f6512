use Rattle.std.proofs.lemmas.Result.{on_ok_weaker}
use Rattle.nugwier_sections.specs.Plan.{mappings_said}
use Rattle.nugwier_sections.proofs.Told.{mapped, refused}
use Rattle.nugwier_report.specs.Whole.{file_of}
use Rattle.nugwier_sections.proofs.plan.tell_plan.Goals as goal

pub returns-in-Ok : goal.returns-in-Ok
returns-in-Ok g c =
    let file = file_of (g.R.Headers.file c.args.file.now) (g.R.ListedFile.bytes c.args.file.now) in
    let shown = c.as_slice.result.now in
    on_ok_weaker c.tell_mappings.result (λ told loud. (mappings_said shown, mapped file c.in-Ok.plan.items shown c.in-Ok.ensures.plan c.as_slice.ensures.value, told)) c.tell_mappings.ensures

pub returns-in-Err : goal.returns-in-Err
returns-in-Err g c =
    let file = file_of (g.R.Headers.file c.args.file.now) (g.R.ListedFile.bytes c.args.file.now) in
    refused g.T.Tell.silent g.T.Tell.one file c.tell_refused.result c.in-Err.error c.args.tell.now c.tell_refused.new.tell c.in-Err.ensures.refused c.tell_refused.ensures.reason c.tell_refused.ensures.told
