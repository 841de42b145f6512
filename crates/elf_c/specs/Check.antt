-- What a check of a file returns and writes, and what calls about a sound file return.
use Rattle.std.specs.Prelude.{◌≡◌, ℕ, ◌<◌, ◌≤◌, ◌++◌, Bool, true, false, List, drop, length, map, take, Some, Result, Ok}
use Rattle.std.specs.Prelude.{Err}
use Rattle.elf_records.specs.StringTable.{string_at}
use Rattle.elf_records.specs.Symbol.{symbol_reads}
use Rattle.elf_records.specs.Table.{Table, table_get, table_len}
use Rattle.elf_records.specs.declared.parse.ParseError.{ParseError}
use Rattle.elf_records.specs.declared.section.SectionHeader.{SectionHeader}
use Rattle.elf_records.specs.declared.symbol.Symbol.{Symbol}
use Rattle.elf.specs.Answers.{first_symbols, section_header_by_name, symbol_version_table}
use Rattle.elf.specs.Data.{section_data}
use Rattle.elf.specs.Names.{name_table}
use Rattle.elf.specs.ObjectFile.{ObjectFile}
use Rattle.elf.specs.declared.read_error.ReadError.{ReadError}
use Rattle.elf_check.specs.AllFaults.{AreAllFaults, AreFaults, Subject, subjects}
use Rattle.elf_check.specs.Faults.{IsTrueOfFile}
use Rattle.elf_check.specs.Sound.{SoundFile}
use Rattle.elf_check.specs.declared.faults.FileFault.{FileFault}
use Rattle.elf_c.specs.Faults.{fault_shown, no_fault}
use Rattle.elf_c.specs.File.{file_over}
use Rattle.elf_c.specs.Status.{done, status_of}
use Rattle.elf_c.specs.Symbols.{symbols_type}
use Rattle.elf_c.specs.declared.faults.NugwierFault.{NugwierFault}
use Rattle.elf_c.specs.declared.file.NugwierFile.{NugwierFile}

-- the file is sound, and there is no fault; or it is not, and this is its first fault
abbrev pub IsChecked : ObjectFile → Bool → NugwierFault → Type 0
IsChecked file true fault = SoundFile file × (fault ≡ no_fault)
IsChecked file false fault =
    (¬ SoundFile file) × ((own : FileFault) × IsTrueOfFile file own × (fault ≡ fault_shown own))

-- what a call wrote, before which the old ones were there: what was found in all bytes of the file, if they are loaded
abbrev pub IsCheckWritten : NugwierFile → Result (List ℕ) ReadError → Bool → Bool → NugwierFault → NugwierFault → Type 0
IsCheckWritten file (Ok bytes) was sound old fault = IsChecked (file_over file bytes) sound fault
IsCheckWritten file (Err e) was sound old fault = (sound ≡ was) × (fault ≡ old)

-- ---- all faults

-- the places below a number hold the first faults of a file: those of the first subjects of the check. If there are
-- more places, there are no more faults.
abbrev pub AreFirstFaults : ObjectFile → ℕ → List NugwierFault → Type 0
AreFirstFaults file count places =
    (found : List FileFault) × (length found ≡ count) × (take count places ≡ map fault_shown found)
    × ((first : List Subject) × (left : List Subject) × (subjects file ≡ first ++ left) × AreFaults file first found)
    × (count < length places → AreAllFaults file found)

-- what a call wrote, before which the old ones were there
abbrev pub IsFaultsWritten : NugwierFile → Result (List ℕ) ReadError → ℕ → ℕ → List NugwierFault → List NugwierFault →
    Type 0
IsFaultsWritten file (Ok bytes) was count old new =
    (count ≤ length new) × AreFirstFaults (file_over file bytes) count new × (drop count new ≡ drop count old)
IsFaultsWritten file (Err e) was count old new = (count ≡ was) × (new ≡ old)

-- ---- calls that return no error

-- the status is that of success
abbrev pub Succeeds : {A : Type 0} → Result A ParseError → Type 0
Succeeds answer = status_of answer ≡ done

-- `nugwier_section_names`; `nugwier_section_by_name` of each name; `nugwier_section` at each index below the number of
-- sections; of a section `nugwier_section_data`, and `nugwier_string` at the offset of its name, if there are names
pub record AreSectionsRead (file : ObjectFile) : Type 0 where
  pub names : Succeeds (name_table file)
  pub by_name : (name : List ℕ) → Succeeds (section_header_by_name file name)
  pub headers : (i : ℕ) → i < length file.sections → Succeeds (file.section_at i)
  pub content : (i : ℕ) (s : SectionHeader) → file.section_at i ≡ Ok s → Succeeds (section_data file s)
  pub name :
      (i : ℕ) (s : SectionHeader) (strings : List ℕ) → file.section_at i ≡ Ok s → name_table file ≡ Ok (Some strings) →
      Succeeds (string_at strings s.sh_name)

-- `nugwier_version_table` and `nugwier_symbol_table`; if there are symbols, `nugwier_symbol` at an index below their
-- number, and `nugwier_string` at the offset of its name
pub record AreSymbolsRead (file : ObjectFile) (dynamic : Bool) (i : ℕ) : Type 0 where
  pub versions : Succeeds (symbol_version_table file)
  pub table : Succeeds (first_symbols (symbols_type dynamic) file)
  pub symbol :
      (symbols : Table) (strings : List ℕ) → first_symbols (symbols_type dynamic) file ≡ Ok (Some (symbols, strings)) →
      i < table_len symbol_reads symbols → Succeeds (table_get symbol_reads symbols i)
  pub name :
      (symbols : Table) (strings : List ℕ) (symbol : Symbol) →
      first_symbols (symbols_type dynamic) file ≡ Ok (Some (symbols, strings)) → i < table_len symbol_reads symbols →
      table_get symbol_reads symbols i ≡ Ok symbol → Succeeds (string_at strings symbol.st_name)
