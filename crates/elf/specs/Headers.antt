-- Section i of a file and the bytes of its range (gABI, chapter "Sections"), and which section or segment is taken,
-- where a method looks for one of a type (gABI, chapters "Sections" and "Program Header").
use Rattle.std.specs.Prelude.{ℕ, List, Option, Some, None, Result, Err, ◌==◌, Ok}
use Rattle.std.specs.List.{find}
use Rattle.elf_records.specs.Number.{bytes_at, ok_map}
use Rattle.elf_records.specs.Section.{section_header_reads}
use Rattle.elf_records.specs.Table.{Table, table_get}
use Rattle.elf_records.specs.declared.parse.ParseError.{ParseError}
use Rattle.elf_records.specs.declared.parse.ParseError.TheVariants.{BadOffset}
use Rattle.elf_records.specs.declared.section.SectionHeader.{SectionHeader}
use Rattle.elf_records.specs.declared.segment.ProgramHeader.{ProgramHeader}
use Rattle.elf_reading.specs.Versions.{is_of_type}

-- ---- a header, and its bytes

-- section header i of a table, or the error; where no table is declared there is none
abbrev pub section_at : Option Table → ℕ → Result SectionHeader ParseError
section_at None i = Err (BadOffset i)
section_at (Some t) i = table_get section_header_reads t i

-- the bytes of a section: sh_size of them, starting at sh_offset
abbrev pub section_range : List ℕ → SectionHeader → Result (List ℕ) ParseError
section_range bytes s = bytes_at s.sh_size bytes s.sh_offset

-- ---- the first and the last of a type

-- the result of a value that was looked for, if there is one
abbrev pub if_found : {A B E : Type 0} → (A → Result B E) → Option A → Result (Option B) E
if_found answer None = Ok None
if_found answer (Some x) = ok_map Some (answer x)

-- the first section of a type
abbrev pub first_section_of : ℕ → List SectionHeader → Option SectionHeader
first_section_of t sections = find (is_of_type t) sections

-- the first segment of a type
abbrev pub first_segment_of : ℕ → List ProgramHeader → Option ProgramHeader
first_segment_of t segments = find (λ p. p.p_type == t) segments
