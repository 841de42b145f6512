use Rattle.std.proofs.Common.{◌≢◌, ℕ, List, subst}
use Rattle.std.specs.IoError.{error_kind}
use Rattle.std.specs.declared.io.ErrorKind.TheVariants.{OutOfMemory}
use Rattle.nugwier_commands.specs.Run.{IsBytesSaid, IsElfSaid, IsOne, IsProblemSaid, IsSaidAt}
use Rattle.nugwier_commands.proofs.Begun.{missing_as, missing_from, read_as}
use Rattle.nugwier_commands.proofs.Lifting.{one_of, then_told, told_if}
use Rattle.std.specs.Prelude.{None}
use Rattle.nugwier_commands.specs.Words.{task_of}
use Rattle.nugwier_commands.proofs.archive.run_elsewhere.Goals as goal

pub returns-in-Ok : goal.returns-in-Ok
returns-in-Ok g c =
    let known = g.F.Files.known c.args.files.now in
    let task = task_of c.args.target.job.now in
    let heading = c.args.target.heading in
    let path = c.args.target.path.now in
    let IsSaid = IsElfSaid (IsBytesSaid task path) in
    then_told g.R.Run.one c.run_slice.result _ _ _ (IsOne heading path (IsSaidAt known IsSaid c.args.path.now))
    (one_of heading path (IsSaid c.as_slice.result.now) (IsSaidAt known IsSaid c.args.path.now)
    (λ named said h. read_as known IsSaid c.args.path.now c.in-Ok.data.items named said c.in-Ok.ensures.content (subst (λ (bytes : List ℕ). IsSaid bytes named said) c.as_slice.ensures.value h)))
    c.run_slice.ensures

pub returns-in-Err : goal.returns-in-Err
returns-in-Err g c =
    let known = g.F.Files.known c.args.files.now in
    let task = task_of c.args.target.job.now in
    let heading = c.args.target.heading in
    let path = c.args.target.path.now in
    let IsSaid = IsElfSaid (IsBytesSaid task path) in
    let error = c.in-Err.error in
    told_if g.R.Run.one (error_kind error ≢ OutOfMemory) c.tell_unread.result _ _ _ (IsOne heading path (IsSaidAt known IsSaid c.args.path.now))
    (λ other. one_of heading path (IsProblemSaid None) (IsSaidAt known IsSaid c.args.path.now)
    (λ named said h. missing_as known IsSaid c.args.path.now named said (missing_from known c.args.path.now (error_kind error) c.in-Err.ensures.error other) h))
    c.tell_unread.ensures.reason c.tell_unread.ensures.told
