use Rattle.std.proofs.Common.{refl}
use Rattle.nugwier_commands.specs.Run.{IsProgramSaid}
use Rattle.nugwier_commands.proofs.Lifting.{told_under}
use Rattle.nugwier_report.specs.Labels.{no_sections}
use Rattle.nugwier_commands.specs.Words.{task_of}
use Rattle.nugwier_commands.proofs.target.Target.tell_program.Goals as goal

pub returns : goal.returns
returns g c =
    let target = c.args.self.now in
    let heading = target.heading in
    let path = target.path.now in
    let Says = IsProgramSaid (g.F.Files.known c.args.files.now) target.job.now.command (task_of target.job.now) path c.args.data.items in
    told_under g.R.Run.one c.tell_loaded.result heading path Says (λ said. Says no_sections said) no_sections _ c.tell_loaded.new.tell _ refl (λ said is. is) c.tell_loaded.ensures c.run-1.given.1
