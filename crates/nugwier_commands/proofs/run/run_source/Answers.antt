use Rattle.nugwier_commands.specs.Run.{IsBytesSaid, IsOne, IsSaidAt}
use Rattle.nugwier_commands.proofs.Begun.{source_said}
use Rattle.nugwier_commands.proofs.Lifting.{one_of, then_tried}
use Rattle.nugwier_commands.specs.Words.{task_of}
use Rattle.nugwier_commands.proofs.run.run_source.Goals as goal

pub returns-in-Some : goal.returns-in-Some
returns-in-Some g c =
    let known = g.F.Files.known c.args.files.now in
    let heading = c.args.target.heading in
    let path = c.args.target.path.now in
    let IsSaid = IsBytesSaid (task_of c.args.target.job.now) path in
    then_tried g.R.Run.one c.tell_source.result _ _ _ (IsOne heading path (IsSaidAt known IsSaid path))
    (one_of heading path _ (IsSaidAt known IsSaid path)
    (λ named said h. source_said known IsSaid path _ named said c.in-Some.ensures h)) c.tell_source.ensures
