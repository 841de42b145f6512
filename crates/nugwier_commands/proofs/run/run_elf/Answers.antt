use Rattle.std.proofs.Common.{◌≢◌}
use Rattle.std.specs.IoError.{error_kind}
use Rattle.std.specs.declared.io.ErrorKind.TheVariants.{OutOfMemory}
use Rattle.nugwier_commands.specs.Run.{IsContentSaid, IsOne, IsProblemSaid, IsSaidAt}
use Rattle.nugwier_commands.proofs.Begun.{missing_as, missing_from, read_as}
use Rattle.nugwier_commands.proofs.Lifting.{none_before, one_of, then_told, told_if}
use Rattle.std.specs.Prelude.{None}
use Rattle.nugwier_commands.specs.Words.{task_of}
use Rattle.nugwier_commands.proofs.run.run_elf.Goals as goal

pub returns-in-Ok : goal.returns-in-Ok
returns-in-Ok g c =
    let known = g.F.Files.known c.args.files.now in
    let task = task_of c.args.target.job.now in
    let heading = c.args.target.heading in
    let path = c.args.target.path.now in
    let IsSaid = IsContentSaid known task.command task path in
    none_before g.R.Run.one c.run_content.result _ _ _ (IsOne heading path (IsSaidAt known IsSaid path)) c.in_ok-run_parts.field-0 c.if-branch.false c.in_ok-run_parts.ensures
    (then_told g.R.Run.one c.run_content.result _ _ _ (IsOne heading path (IsSaidAt known IsSaid path))
    (one_of heading path (IsSaid c.in-Ok.data.items) (IsSaidAt known IsSaid path)
    (λ named said h. read_as known IsSaid path c.in-Ok.data.items named said c.in-Ok.ensures.content h))
    c.run_content.ensures)

pub returns-in-Err : goal.returns-in-Err
returns-in-Err g c =
    let known = g.F.Files.known c.args.files.now in
    let task = task_of c.args.target.job.now in
    let heading = c.args.target.heading in
    let path = c.args.target.path.now in
    let IsSaid = IsContentSaid known task.command task path in
    let error = c.in-Err.error in
    none_before g.R.Run.one c.tell_unread.result _ _ _ (IsOne heading path (IsSaidAt known IsSaid path)) c.in_ok-run_parts.field-0 c.if-branch.false c.in_ok-run_parts.ensures
    (told_if g.R.Run.one (error_kind error ≢ OutOfMemory) c.tell_unread.result _ _ _ (IsOne heading path (IsSaidAt known IsSaid path))
    (λ other. one_of heading path (IsProblemSaid None) (IsSaidAt known IsSaid path)
    (λ named said h. missing_as known IsSaid path named said (missing_from known path (error_kind error) c.in-Err.ensures.error other) h))
    c.tell_unread.ensures.reason c.tell_unread.ensures.told)
