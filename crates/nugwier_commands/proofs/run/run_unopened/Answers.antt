use Rattle.std.proofs.Common.{◌≡◌, ◌∙◌, true, false, sym}
use Rattle.elf_reading.specs.Opening.{opened_by_segments}
use Rattle.elf_records.specs.Endian.{any_is_little, any_of_byte}
use Rattle.nugwier_commands.specs.Run.{IsOne, IsProblemSaid, IsUnopenedSaid}
use Rattle.nugwier_commands.proofs.Lifting.{one_of, then_told}
use Rattle.nugwier_commands.proofs.Unopened.{checked_said, lost_said}
use Rattle.nugwier_commands.proofs.run.run_unopened.Goals.{in-Check, in_default}
use Rattle.elf_records.specs.Texts.{error_text}
use Rattle.nugwier_commands.specs.Words.{task_of}
use Rattle.nugwier_commands.specs.declared.words.Command.TheVariants.{Check}
use Rattle.nugwier_commands.proofs.run.run_unopened.Goals as goal

never : false ≡ true → ⊥
never is = cc is

pub returns-then-matches : goal.returns-then-matches
returns-then-matches g c =
    let task = task_of c.args.target.job.now in
    let heading = c.args.target.heading in
    let path = c.args.target.path.now in
    let bytes = c.args.bytes.now in
    let error = c.args.error in
    let viewed = opened_by_segments any_is_little any_of_byte bytes in
    let is : task.command ≡ Check = elim c.match-matches.branch [ in-Check w ↦ w.in-Check.is | in_default w ↦ absurd (never (sym w.matches-is ∙ c.if-matches.true)) ] in
    then_told g.R.Run.one c.tell_problem.result _ _ _ (IsOne heading path (IsUnopenedSaid task.command task path bytes error viewed))
    (one_of heading path (IsProblemSaid (error_text error)) (IsUnopenedSaid task.command task path bytes error viewed)
    (λ named said h. checked_said task path bytes error named said task.command viewed is h)) c.tell_problem.ensures

pub returns-in-Err : goal.returns-in-Err
returns-in-Err g c =
    let task = task_of c.args.target.job.now in
    let heading = c.args.target.heading in
    let path = c.args.target.path.now in
    let bytes = c.args.bytes.now in
    let error = c.args.error in
    let viewed = opened_by_segments any_is_little any_of_byte bytes in
    then_told g.R.Run.one c.tell_problem-in-Err.result _ _ _ (IsOne heading path (IsUnopenedSaid task.command task path bytes error viewed))
    (one_of heading path (IsProblemSaid (error_text error)) (IsUnopenedSaid task.command task path bytes error viewed)
    (λ named said h. lost_said task path bytes error named said task.command c.in-Err.field-0 viewed c.in-Err.ensures h)) c.tell_problem-in-Err.ensures
