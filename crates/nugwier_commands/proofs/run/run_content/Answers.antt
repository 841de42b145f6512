use Rattle.nugwier_commands.specs.Run.{IsContentSaid, IsOne, IsProgramSaid}
use Rattle.nugwier_commands.proofs.Lifting.{one_of, then_told}
use Rattle.nugwier_commands.proofs.Programs.{bindings_content, starts_content, tree_content}
use Rattle.nugwier_commands.specs.Words.{task_of}
use Rattle.nugwier_commands.proofs.run.run_content.Goals as goal

pub returns-in-Tree : goal.returns-in-Tree
returns-in-Tree g c =
    let known = g.F.Files.known c.args.files.now in
    let task = task_of c.args.target.job.now in
    let heading = c.args.target.heading in
    let path = c.args.target.path.now in
    let bytes = c.args.data.items in
    then_told g.R.Run.one c.tell_program.result _ _ _ (IsOne heading path (IsContentSaid known task.command task path bytes))
    (one_of heading path (IsProgramSaid known task.command task path bytes) (IsContentSaid known task.command task path bytes)
    (λ named said h. tree_content known task path bytes named said task.command c.in-Tree.is h)) c.tell_program.ensures

pub returns-in-Bindings : goal.returns-in-Bindings
returns-in-Bindings g c =
    let known = g.F.Files.known c.args.files.now in
    let task = task_of c.args.target.job.now in
    let heading = c.args.target.heading in
    let path = c.args.target.path.now in
    let bytes = c.args.data.items in
    then_told g.R.Run.one c.tell_program-in-Bindings.result _ _ _ (IsOne heading path (IsContentSaid known task.command task path bytes))
    (one_of heading path (IsProgramSaid known task.command task path bytes) (IsContentSaid known task.command task path bytes)
    (λ named said h. bindings_content known task path bytes named said task.command c.in-Bindings.is h)) c.tell_program-in-Bindings.ensures

pub returns-in-Starts : goal.returns-in-Starts
returns-in-Starts g c =
    let known = g.F.Files.known c.args.files.now in
    let task = task_of c.args.target.job.now in
    let heading = c.args.target.heading in
    let path = c.args.target.path.now in
    let bytes = c.args.data.items in
    then_told g.R.Run.one c.tell_program-in-Starts.result _ _ _ (IsOne heading path (IsContentSaid known task.command task path bytes))
    (one_of heading path (IsProgramSaid known task.command task path bytes) (IsContentSaid known task.command task path bytes)
    (λ named said h. starts_content known task path bytes named said task.command c.in-Starts.is h)) c.tell_program-in-Starts.ensures
