use Rattle.std.proofs.Common.{ℕ, drop, refl, arith}
use Rattle.std.specs.Prelude.{◌==◌, position}
use Rattle.std.proofs.lemmas.Grind.{common_steps}
use Rattle.std.proofs.lemmas.List.{take_rest}
use Rattle.elf_records.specs.StringTable.{string_at}
use Rattle.elf_records.proofs.Terminated.{follows, none_follows, same_answer_for}
use Rattle.elf_records.proofs.string_table.TerminatedStrings.is_quickly.Goals as goal

pub returns-then-offset-self-clause-refused : goal.returns-then-offset-self-clause-refused
unfolding string_at
returns-then-offset-self-clause-refused c =
    let none = none_follows c.self.inside.table.«data».now c.self.inside.terminated c.args.offset c.self.invariant (omega arith) in
    grind (arith, common_steps)

pub returns-clause-value : goal.returns-clause-value
unfolding string_at
returns-clause-value c =
    let bytes = c.self.inside.table.«data».now in
    let there = follows bytes c.self.inside.terminated c.args.offset c.self.invariant (omega arith) in
    let nul = λ (byte : ℕ). byte == 0 in
    let same = same_answer_for nul (drop c.args.offset bytes) c.args.name.now c.first_string_is.result (rw (take_rest bytes c.args.offset) at c.first_string_is.ensures) (position nul (drop c.args.offset bytes)) refl there in
    grind (arith, common_steps)
