use Rattle.elf_libraries.specs.Tree.{found_view}
use Rattle.nugwier_commands.specs.Run.{IsOne, IsProgramSaid, IsSaidAt, search_of}
use Rattle.nugwier_commands.specs.inner.Loading.{IsNamedProgramSaid}
use Rattle.nugwier_commands.proofs.Lifting.{as_told, one_of}
use Rattle.nugwier_commands.proofs.Named.{named_said}
use Rattle.nugwier_commands.specs.Words.{task_of}
use Rattle.nugwier_commands.proofs.run.run_program.Goals as goal

pub returns : goal.returns
returns g c =
    let known = g.F.Files.known c.args.files.now in
    let task = task_of c.args.target.job.now in
    let heading = c.args.target.heading in
    let path = c.args.target.path.now in
    let program = found_view c.in-Some.program in
    as_told g.R.Run.one _ _ _ (IsOne heading path (IsSaidAt known (IsProgramSaid known task.command task path) path))
    (one_of heading path (IsNamedProgramSaid known task.command (search_of task) path program) (IsSaidAt known (IsProgramSaid known task.command task path) path)
    (λ named said h. named_said known task path program named said c.in-Some.ensures h)) c.in_ok-tell_named.ensures
