use Rattle.std.proofs.Common.{sym, ◌∙◌}
use Rattle.nugwier_commands.specs.Formats.{not_elf_text}
use Rattle.nugwier_commands.specs.Run.{ArePathSaid, IsContentSaid, IsProblemSaid, IsSaidAt}
use Rattle.nugwier_commands.proofs.Begun.{elf_said, other_said}
use Rattle.nugwier_commands.proofs.Lifting.{from_one, then_told}
use Rattle.nugwier_commands.specs.Words.{task_of}
use Rattle.nugwier_commands.proofs.run.run_front.Goals as goal

pub returns-then-is_elf : goal.returns-then-is_elf
returns-then-is_elf g c begins =
    let known = g.F.Files.known c.args.files.now in
    let task = task_of c.args.target.job.now in
    let heading = c.args.target.heading in
    let path = c.args.target.path.now in
    let is_file = sym c.is_archive.ensures ∙ c.if-is_archive.false in
    then_told g.R.Run.one c.run_elf.result _ _ _ (ArePathSaid known task heading path)
    (from_one heading path (IsSaidAt known (IsContentSaid known task.command task path) path) (ArePathSaid known task heading path)
    (λ named said h. elf_said known task heading path c.args.front.now named said begins is_file (sym c.is_elf.ensures ∙ c.if-is_elf.true) h)) c.run_elf.ensures

pub returns-else-is_elf : goal.returns-else-is_elf
returns-else-is_elf g c begins =
    let known = g.F.Files.known c.args.files.now in
    let task = task_of c.args.target.job.now in
    let heading = c.args.target.heading in
    let path = c.args.target.path.now in
    let fault = not_elf_text c.not_elf.result.0 in
    let is_file = sym c.is_archive.ensures ∙ c.if-is_archive.false in
    then_told g.R.Run.one c.tell_problem.result _ _ _ (ArePathSaid known task heading path)
    (from_one heading path (IsProblemSaid fault) (ArePathSaid known task heading path)
    (λ named said h. other_said known task heading path c.args.front.now fault named said begins is_file (sym c.is_elf.ensures ∙ c.if-is_elf.false) c.not_elf.ensures h)) c.tell_problem.ensures
