use Rattle.std.proofs.Common.{sym, ap, ◌∙◌}
use Rattle.nugwier_commands.specs.Formats.{not_elf_text}
use Rattle.nugwier_commands.specs.Run.{IsContentSaid, IsElfSaid, IsOne, IsProblemSaid}
use Rattle.nugwier_commands.proofs.Begun.{other_begun}
use Rattle.nugwier_commands.proofs.Lifting.{one_of, then_told}
use Rattle.nugwier_commands.specs.Formats.{front}
use Rattle.nugwier_commands.specs.Words.{task_of}
use Rattle.nugwier_commands.proofs.run.run_one.Goals as goal

pub returns-else-is_elf : goal.returns-else-is_elf
returns-else-is_elf g c =
    let task = task_of c.args.target.job.now in
    let heading = c.args.target.heading in
    let path = c.args.target.path.now in
    let bytes = c.args.data.items in
    let fault = not_elf_text c.not_elf.result.0 in
    let IsSaid = IsContentSaid (g.F.Files.known c.args.files.now) task.command task path in
    then_told g.R.Run.one c.tell_problem.result _ _ _ (IsOne heading path (IsElfSaid IsSaid bytes))
    (one_of heading path (IsProblemSaid fault) (IsElfSaid IsSaid bytes)
    (λ named said h. other_begun IsSaid bytes c.front_in-front.result.now fault named said (c.front_in-front.ensures ∙ ap front c.as_slice.ensures.value) (sym c.is_elf.ensures ∙ c.if-is_elf.false) c.not_elf.ensures h)) c.tell_problem.ensures
