use Rattle.std.proofs.Common.{arith, inl, inr}
use Rattle.std.proofs.lemmas.Bool.{cases_lt}
use Rattle.std.proofs.lemmas.Grind.{common_steps}
use Rattle.elf_records.specs.StringTable.{string_at}
use Rattle.elf_records.proofs.Terminated.{follows, none_follows}
use Rattle.elf_records.proofs.string_table.TerminatedStrings.has_string_at.Goals as goal

pub returns : goal.returns
unfolding string_at
returns c =
    let bytes = c.self.inside.table.«data».now in
    elim (cases_lt c.args.offset c.self.inside.terminated) [
      | inl low ↦
          let some = follows bytes c.self.inside.terminated c.args.offset c.self.invariant low in
          grind (arith, common_steps)
      | inr high ↦
          let none = none_follows bytes c.self.inside.terminated c.args.offset c.self.invariant high in
          grind (arith, common_steps)
    ]
