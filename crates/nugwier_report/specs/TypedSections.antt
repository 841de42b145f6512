-- The sections of some types, each with its bytes.
use Rattle.std.specs.Prelude.{ℕ, ◌+◌, ◌-◌, ◌==◌, nat_lt, Bool, if◌then◌else◌, List, [], ◌∷◌, length}
use Rattle.std.specs.Prelude.{Result, Ok, Err}
use Rattle.std.specs.List.{list_any}
use Rattle.elf.specs.Data.{content}
use Rattle.elf.specs.ObjectFile.{ObjectFile}
use Rattle.elf_records.specs.declared.parse.ParseError.{ParseError}
use Rattle.elf_records.specs.declared.section.SectionHeader.{SectionHeader}
use Rattle.nugwier_report.specs.declared.problem.Fault.{Fault}
use Rattle.nugwier_report.specs.declared.problem.Fault.TheVariants.{Read, Repeated}

-- bytes, if no more than this number are left to list
abbrev pub within : ℕ → Result (List ℕ) ParseError → Result (List ℕ) Fault
within left (Ok bytes) = if nat_lt left (length bytes) then Err Repeated else Ok bytes
within left (Err e) = Err (Read e)

-- how many may be listed after them
abbrev pub left_after : ℕ → Result (List ℕ) ParseError → ℕ
left_after left (Ok bytes) = left - length bytes
left_after left (Err e) = left

-- a section with its number, and its bytes or why they are not listed
pub record TypedSection : Type 0 where
  pub number : ℕ
  pub header : SectionHeader
  pub bytes : Result (List ℕ) Fault

abbrev pub has_type : List ℕ → SectionHeader → Bool
has_type types s = list_any (λ t. t == s.sh_type) types

-- of sections with the numbers from k on those of these types, while this number of bytes are left to list
abbrev pub sections_from : ObjectFile → List ℕ → ℕ → ℕ → List SectionHeader → List TypedSection
sections_from file types left k [] = []
sections_from file types left k (s ∷ sections) =
    if has_type types s
    then record { number = k; header = s; bytes = within left (content file s) }
    ∷ sections_from file types (left_after left (content file s)) (k + 1) sections
    else sections_from file types left (k + 1) sections

-- Those of a file. They have at most as many bytes as the file, so bytes that many sections have are not listed over
-- and over.
abbrev pub sections_of : ObjectFile → List ℕ → List TypedSection
sections_of file types = sections_from file types file.size 0 file.sections
