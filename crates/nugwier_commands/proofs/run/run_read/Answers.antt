use Rattle.std.specs.IoError.{error_kind}
use Rattle.std.specs.declared.io.ErrorKind.TheVariants.{OutOfMemory}
use Rattle.std.proofs.Common.{◌≢◌}
use Rattle.nugwier_commands.specs.Run.{ArePathSaid, IsProblemSaid}
use Rattle.nugwier_commands.proofs.Begun.{missing_from, missing_said}
use Rattle.nugwier_commands.proofs.Lifting.{from_one, told_if}
use Rattle.std.specs.Prelude.{None}
use Rattle.nugwier_commands.specs.Words.{task_of}
use Rattle.nugwier_commands.proofs.run.run_read.Goals as goal

pub returns-in-Err : goal.returns-in-Err
returns-in-Err g c =
    let known = g.F.Files.known c.args.files.now in
    let task = task_of c.args.target.job.now in
    let heading = c.args.target.heading in
    let path = c.args.target.path.now in
    let error = c.in-Err.error in
    told_if g.R.Run.one (error_kind error ≢ OutOfMemory) c.tell_unread.result _ _ _ (ArePathSaid known task heading path)
    (λ other. from_one heading path (IsProblemSaid None) (ArePathSaid known task heading path)
    (λ named said h. missing_said known task heading path named said (missing_from known path (error_kind error) c.in-Err.ensures.error other) h))
    c.tell_unread.ensures.reason c.tell_unread.ensures.told
