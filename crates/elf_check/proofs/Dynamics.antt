-- The strings of dynamic entries that are sound.
use Rattle.std.proofs.Common.{◌≡◌, ℕ, List, Result, Ok, ap, subst}
use Rattle.std.specs.Result.{IsOkAnd}
use Rattle.elf_records.specs.Record.{◌>>=◌}
use Rattle.elf_records.specs.declared.parse.ParseError.{ParseError}
use Rattle.elf_records.specs.declared.section.SectionHeader.{SectionHeader}
use Rattle.elf.specs.Data.{content}
use Rattle.elf.specs.ObjectFile.{ObjectFile, section_part, table_of}
use Rattle.elf.specs.Versions.{linked_strings}
use Rattle.elf_check.specs.Dynamic.{SoundDynamic, SoundEntries}
use Rattle.elf_check.proofs.Linked.{at_ok}

-- the strings are those of the section that is linked
pub linked_here : (file : ObjectFile) (s linked : SectionHeader) → file.section_at s.sh_link ≡ Ok linked → linked_strings file s ≡ section_part file linked
linked_here file s linked here = ap (λ (r : Result SectionHeader ParseError). r >>= section_part file) here

pub strings_there : (file : ObjectFile) (s linked : SectionHeader) (bytes : List ℕ) → SoundDynamic file s → content file s ≡ Ok bytes → file.section_at s.sh_link ≡ Ok linked → IsOkAnd (section_part file linked) (λ strings. SoundEntries strings (table_of file bytes))
strings_there file s linked bytes sound e here =
    subst (λ (r : Result (List ℕ) ParseError). IsOkAnd r (λ strings. SoundEntries strings (table_of file bytes))) (linked_here file s linked here)
    (at_ok (λ (b : List ℕ). IsOkAnd (linked_strings file s) (λ strings. SoundEntries strings (table_of file b))) (content file s) bytes e sound.entries)
