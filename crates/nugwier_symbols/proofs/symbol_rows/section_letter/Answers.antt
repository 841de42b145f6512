use Rattle.std.proofs.Common.{◌≡◌, ◌==◌, ℕ, Bool, false, cond, List, Option, Some, None, refl, ap, sym, ◌∙◌, arith}
use Rattle.std.proofs.lemmas.Bool.Decides.{nat_tests}
use Rattle.std.proofs.lemmas.Option.{slice_get_past, slice_get_read}
use Rattle.std.specs.Prelude.{slice_get}
use Rattle.elf_abi.specs.Values.{shn_abs}
use Rattle.elf_records.specs.declared.section.SectionHeader.{SectionHeader}
use Rattle.nugwier_symbols.specs.SymbolRows.{letter_in_one, section_letter}
use Rattle.nugwier_symbols.proofs.symbol_rows.section_letter.Goals as goal

not_absolute : (n : ℕ) → (n ≡ shn_abs → ⊥) → (n == shn_abs) ≡ false
not_absolute n other = grind (arith, nat_tests)

-- of what is in a section, if it is no absolute value
letter_at : (sections : List SectionHeader) (names : List ℕ) (n : ℕ) (section : Option SectionHeader) → (n ≡ shn_abs → ⊥) → slice_get sections n ≡ section
    → section_letter sections names n ≡ letter_in_one names section
letter_at sections names n section other is =
    ap (λ (b : Bool). cond b 0x61 (letter_in_one names (slice_get sections n))) (not_absolute n other) ∙ ap (letter_in_one names) is

pub returns-in-Some : goal.returns-in-Some
returns-in-Some c =
    let sections = c.args.sections.now in
    let section = c.in-Some.section.now in
    let found = c.in-Some.ensures.lookup.3 in
    c.letter_in.ensures
    ∙ sym (letter_at sections c.args.names.now c.args.st_shndx (Some section) c.if-st_shndx-eq-SHN_ABS.false (slice_get_read sections _ c.args.st_shndx section refl found.0 (found.1 section)))

pub returns-in-None : goal.returns-in-None
returns-in-None c =
    let sections = c.args.sections.now in
    sym (letter_at sections c.args.names.now c.args.st_shndx None c.if-st_shndx-eq-SHN_ABS.false (slice_get_past sections c.args.st_shndx c.in-None.ensures.lookup.3))
