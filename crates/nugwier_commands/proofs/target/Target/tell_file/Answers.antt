use Rattle.std.proofs.Common.{◌≡◌, ◌++◌, List, refl}
use Rattle.std.proofs.lemmas.Result.{on_ok_weaker}
use Rattle.nugwier_commands.specs.Run.{IsFileSaid}
use Rattle.nugwier_commands.specs.inner.Loading.{IsSaidAfter, unread_said}
use Rattle.nugwier_commands.proofs.Lifting.{named_same, told_under}
use Rattle.nugwier_commands.specs.Job.{IsSaidOf}
use Rattle.nugwier_commands.specs.Labels.{names_told}
use Rattle.nugwier_report.specs.Labels.{named_by}
use Rattle.nugwier_report.specs.Said.{Said}
use Rattle.nugwier_report.specs.Whole.{file_of}
use Rattle.nugwier_commands.specs.Words.{task_of}
use Rattle.nugwier_commands.proofs.target.Target.tell_file.Goals as goal

pub returns : goal.returns
returns g c =
    let target = c.args.self.now in
    let heading = target.heading in
    let path = target.path.now in
    let task = task_of target.job.now in
    let little = g.E.EndianParse.little in
    let of_byte = g.E.EndianParse.of_byte in
    let file = file_of (g.L.Headers.file c.args.file.now) (g.L.ListedFile.bytes c.args.file.now) in
    let header = g.L.ListedFile.header c.args.file.now in
    let lost = unread_said c.args.lost in
    let named = named_by c.in_ok-labels.labels in
    let labels = c.in_ok-labels.ensures in
    told_under g.R.Run.one c.tell_listed.result heading path (IsSaidAfter c.args.lost (IsFileSaid little of_byte task path header file))
    (λ (said : List Said). (rest : List Said) × IsSaidOf little of_byte task path header file rest × (said ≡ lost ++ rest)) named _ c.tell_listed.new.sheet _
    refl (λ said is. (is.0, (named_same named file.class file.sections (names_told task file) labels.class labels.sections labels.names, is.1), is.2))
    (on_ok_weaker c.tell_listed.result (λ h. (lost ++ h.0, (h.0, h.1, refl), h.2)) c.tell_listed.ensures) c.run-1.given.1
