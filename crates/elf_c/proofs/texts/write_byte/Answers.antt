use Rattle.std.proofs.Common.{ℕ, List, set, refl, sym, ap, ◌∙◌, arith}
use Rattle.std.proofs.lemmas.List.{set_past}
use Rattle.elf_c.specs.Texts.{over}
use Rattle.elf_c.proofs.Writing.{over_more}
use Rattle.elf_c.proofs.texts.write_byte.Goals as goal

pub returns-then-index-place : goal.returns-then-index-place
returns-then-index-place c = (
  refl,
  λ text place long is.
      ap (λ (old : List ℕ). set old c.args.index c.args.byte) is
      ∙ ap (λ (i : ℕ). set (over text place) i c.args.byte) (sym long)
      ∙ sym (over_more text place c.args.byte),
)

pub returns-else-index-place : goal.returns-else-index-place
returns-else-index-place c = (
  refl,
  λ text place long is.
      sym (set_past c.args.place.now c.args.index c.args.byte (omega arith))
      ∙ ap (λ (old : List ℕ). set old c.args.index c.args.byte) is
      ∙ ap (λ (i : ℕ). set (over text place) i c.args.byte) (sym long)
      ∙ sym (over_more text place c.args.byte),
)
