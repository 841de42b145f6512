use Rattle.nugwier_commands.specs.Run.{IsContentSaid, IsOne, IsProgramSaid, IsSaidAt}
use Rattle.nugwier_commands.proofs.Begun.{said_as}
use Rattle.nugwier_commands.proofs.Lifting.{one_of, then_tried}
use Rattle.nugwier_commands.proofs.Programs.{bindings_content, starts_content, tree_content}
use Rattle.nugwier_commands.specs.Words.{task_of}
use Rattle.nugwier_commands.proofs.run.run_parts.Goals as goal

pub returns-in-Tree : goal.returns-in-Tree
returns-in-Tree g c =
    let known = g.F.Files.known c.args.files.now in
    let task = task_of c.args.target.job.now in
    let heading = c.args.target.heading in
    let path = c.args.target.path.now in
    let IsProgram = IsProgramSaid known task.command task path in
    let IsSaid = IsContentSaid known task.command task path in
    then_tried g.R.Run.one c.run_program.result _ _ _ (IsOne heading path (IsSaidAt known IsSaid path))
    (one_of heading path (IsSaidAt known IsProgram path) (IsSaidAt known IsSaid path)
    (λ named said h. said_as known path IsProgram IsSaid named said (λ bytes is. tree_content known task path bytes named said task.command c.in-Tree.is is) h)) c.run_program.ensures

pub returns-in-Bindings : goal.returns-in-Bindings
returns-in-Bindings g c =
    let known = g.F.Files.known c.args.files.now in
    let task = task_of c.args.target.job.now in
    let heading = c.args.target.heading in
    let path = c.args.target.path.now in
    let IsProgram = IsProgramSaid known task.command task path in
    let IsSaid = IsContentSaid known task.command task path in
    then_tried g.R.Run.one c.run_program-in-Bindings.result _ _ _ (IsOne heading path (IsSaidAt known IsSaid path))
    (one_of heading path (IsSaidAt known IsProgram path) (IsSaidAt known IsSaid path)
    (λ named said h. said_as known path IsProgram IsSaid named said (λ bytes is. bindings_content known task path bytes named said task.command c.in-Bindings.is is) h)) c.run_program-in-Bindings.ensures

pub returns-in-Starts : goal.returns-in-Starts
returns-in-Starts g c =
    let known = g.F.Files.known c.args.files.now in
    let task = task_of c.args.target.job.now in
    let heading = c.args.target.heading in
    let path = c.args.target.path.now in
    let IsProgram = IsProgramSaid known task.command task path in
    let IsSaid = IsContentSaid known task.command task path in
    then_tried g.R.Run.one c.run_program-in-Starts.result _ _ _ (IsOne heading path (IsSaidAt known IsSaid path))
    (one_of heading path (IsSaidAt known IsProgram path) (IsSaidAt known IsSaid path)
    (λ named said h. said_as known path IsProgram IsSaid named said (λ bytes is. starts_content known task path bytes named said task.command c.in-Starts.is is) h)) c.run_program-in-Starts.ensures
