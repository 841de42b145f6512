-- What calls return about a file as far as it is loaded, beside what they return about the whole file.
use Rattle.std.specs.Prelude.{◌≡◌, ◌⊎◌, ℕ, Bool, IsTrue, List, Result}
use Rattle.elf_records.specs.declared.parse.ParseError.{ParseError}
use Rattle.elf_records.specs.declared.section.SectionHeader.{SectionHeader}
use Rattle.elf_records.specs.declared.segment.ProgramHeader.{ProgramHeader}
use Rattle.elf.specs.Answers.{dynamic, first_symbols, section_data_as_strtab, section_header_by_name, segment_data}
use Rattle.elf.specs.Answers.{symbol_version_table}
use Rattle.elf.specs.Common.{find_common_data}
use Rattle.elf.specs.Data.{section_data}
use Rattle.elf.specs.Names.{name_table}
use Rattle.elf.specs.ObjectFile.{FileOf, ObjectFile, Partial}
use Rattle.elf.specs.Parts.{Follows}
use Rattle.elf_linking.specs.Needed.{NamesFollow}
use Rattle.elf_linking.specs.declared.needed.NamesError.{NamesError}
use Rattle.elf_tools.specs.BuildId.{build_id}
use Rattle.elf_c.specs.Data.{section_notes, section_records, segment_notes}
use Rattle.elf_c.specs.DynamicNames.{dynamic_names}
use Rattle.elf.specs.declared.read_error.ReadError.{ReadError}
use Rattle.elf.specs.declared.read_error.ReadError.TheVariants.{NotLoaded}
use Rattle.elf_c.specs.Status.{names_status, read_status, status_of, unread}
use Rattle.elf_c.specs.Symbols.{symbols_type}

-- the result and the status are those over the whole file, with the same value or the same error, or they name a range
-- that is missing
abbrev pub IsAnswered : {A : Type 0} → (ℕ × ℕ → Bool) → Result A ParseError → Result A ReadError → Type 0
IsAnswered is_missing whole part =
    Follows is_missing whole part
    × ((read_status part ≡ status_of whole)
    ⊎ ((range : ℕ × ℕ) × IsTrue (is_missing range) × (read_status part ≡ unread (NotLoaded range))))

-- the same of the names that dynamic entries give
abbrev pub AreNamesAnswered : {A : Type 0} → (ℕ × ℕ → Bool) → Result A NamesError → Result A NamesError → Type 0
AreNamesAnswered is_missing whole part =
    NamesFollow is_missing whole part
    × ((names_status part ≡ names_status whole)
    ⊎ ((range : ℕ × ℕ) × IsTrue (is_missing range) × (names_status part ≡ unread (NotLoaded range))))

-- this is so of
-- `nugwier_section_data`, `_segment_data`, `_section_strings`, `_section_rels` and `_section_relas`, `_section_notes`,
-- `_segment_notes`, `_symbol_table`, `_dynamic_table`, `_section_names`, `_section_by_name`, `_version_table`, `_common`,
-- `_dynamic_names`, `_build_id`; and of the range of all bytes, which `nugwier_check` checks
pub record AreFollowed (is_missing : ℕ × ℕ → Bool) (whole : ObjectFile) (part : FileOf Partial) : Type 0 where
  pub content : (s : SectionHeader) → IsAnswered is_missing (section_data whole s) (section_data part s)
  pub segment : (p : ProgramHeader) → IsAnswered is_missing (segment_data whole p) (segment_data part p)
  pub strings : (s : SectionHeader) → IsAnswered is_missing (section_data_as_strtab whole s) (section_data_as_strtab part s)
  pub records :
      (t : ℕ) (s : SectionHeader) → IsAnswered is_missing (section_records t whole s) (section_records t part s)
  pub notes : (s : SectionHeader) → IsAnswered is_missing (section_notes whole s) (section_notes part s)
  pub notes_of_segment : (p : ProgramHeader) → IsAnswered is_missing (segment_notes whole p) (segment_notes part p)
  pub symbols :
      (dynamic : Bool) →
      IsAnswered is_missing (first_symbols (symbols_type dynamic) whole) (first_symbols (symbols_type dynamic) part)
  pub entries : IsAnswered is_missing (dynamic whole) (dynamic part)
  pub names : IsAnswered is_missing (name_table whole) (name_table part)
  pub by_name :
      (name : List ℕ) → IsAnswered is_missing (section_header_by_name whole name) (section_header_by_name part name)
  pub versions : IsAnswered is_missing (symbol_version_table whole) (symbol_version_table part)
  pub common : IsAnswered is_missing (find_common_data whole) (find_common_data part)
  pub linked : AreNamesAnswered is_missing (dynamic_names whole) (dynamic_names part)
  pub id : IsAnswered is_missing (build_id whole) (build_id part)
  pub bytes : IsAnswered is_missing (whole.range 0 whole.size) (part.range 0 part.size)
