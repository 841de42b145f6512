use Rattle.std.proofs.Common.{ℕ, arith, length}
use Rattle.std.specs.Prelude.{◌==◌}
use Rattle.std.proofs.lemmas.Grind.{common_steps}
use Rattle.std.proofs.lemmas.List.Quantifiers.{position-Some}
use Rattle.elf_records.proofs.string_table.first_string_is.Goals as goal

pub returns-then-ne : goal.returns-then-ne
returns-then-ne c = (
  λ no. cc no,
  λ both.
      let at = position-Some (λ (byte : ℕ). byte == 0) c.args.bytes.now (length c.args.name.now) 0 both.0 in
      absurd (grind (arith, common_steps)),
)
