use Rattle.std.proofs.Common.{sym, ◌∙◌}
use Rattle.nugwier_commands.specs.Formats.{not_elf_text}
use Rattle.nugwier_commands.specs.Run.{IsBytesSaid, IsElfSaid, IsOne, IsProblemSaid}
use Rattle.nugwier_commands.proofs.Begun.{other_begun}
use Rattle.nugwier_commands.proofs.Lifting.{one_of, then_told}
use Rattle.nugwier_commands.specs.Words.{task_of}
use Rattle.nugwier_commands.proofs.run.run_slice.Goals as goal

pub returns-else-is_elf : goal.returns-else-is_elf
returns-else-is_elf g c =
    let task = task_of c.args.target.job.now in
    let heading = c.args.target.heading in
    let path = c.args.target.path.now in
    let bytes = c.args.bytes.now in
    let fault = not_elf_text c.not_elf.result.0 in
    let IsSaid = IsBytesSaid task path in
    then_told g.R.Run.one c.tell_problem.result _ _ _ (IsOne heading path (IsElfSaid IsSaid bytes))
    (one_of heading path (IsProblemSaid fault) (IsElfSaid IsSaid bytes)
    (λ named said h. other_begun IsSaid bytes c.front_in-front.result.now fault named said c.front_in-front.ensures (sym c.is_elf.ensures ∙ c.if-is_elf.false) c.not_elf.ensures h)) c.tell_problem.ensures
