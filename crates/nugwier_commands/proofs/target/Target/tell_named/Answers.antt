use Rattle.std.proofs.Common.{refl}
use Rattle.elf_libraries.specs.Tree.{found_view}
use Rattle.nugwier_commands.specs.Run.{search_of}
use Rattle.nugwier_commands.specs.inner.Loading.{IsNamedProgramSaid}
use Rattle.nugwier_commands.proofs.Lifting.{told_under}
use Rattle.nugwier_report.specs.Labels.{no_sections}
use Rattle.nugwier_commands.specs.Words.{task_of}
use Rattle.nugwier_commands.proofs.target.Target.tell_named.Goals as goal

pub returns : goal.returns
returns g c =
    let target = c.args.self.now in
    let heading = target.heading in
    let path = target.path.now in
    let Says = IsNamedProgramSaid (g.F.Files.known c.args.files.now) target.job.now.command (search_of (task_of target.job.now)) path (found_view c.args.program) in
    told_under g.R.Run.one c.tell_opened.result heading path Says (λ said. Says no_sections said) no_sections _ c.tell_opened.new.tell _ refl (λ said is. is) c.tell_opened.ensures c.run-1.given.1
