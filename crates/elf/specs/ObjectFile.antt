-- An object file as the answers about it take it: headers and ranges of bytes, and no word of how a table of
-- headers lies in the file. So it does not matter which reader has opened it.
use Rattle.std.specs.Prelude.{ℕ, Bool, List, Result, Ok, Err, is_some, length, ◌==◌, if◌then◌else◌}
use Rattle.elf_records.specs.Number.{bytes_at}
use Rattle.elf_records.specs.Record.{RecordType}
use Rattle.elf_records.specs.Table.{Table, table_in, table_items}
use Rattle.elf_records.specs.declared.file.Class.{Class}
use Rattle.elf_records.specs.declared.parse.ParseError.{ParseError}
use Rattle.elf_records.specs.declared.parse.ParseError.TheVariants.{BadEntsize}
use Rattle.elf_records.specs.declared.section.SectionHeader.{SectionHeader}
use Rattle.elf_records.specs.declared.segment.ProgramHeader.{ProgramHeader}
use Rattle.elf.specs.Headers.{section_at}
use Rattle.elf.specs.declared.read_error.ReadError.{ReadError}
use Rattle.elf.specs.declared.read_error.ReadError.TheVariants.{Parse}
use Rattle.elf_reading.specs.Opening.{FileView, section_list, segment_list}

-- how much of a file its reader has: the whole, or a part, where a range may be missing
pub data Extent : Type 0 where
  Whole : Extent
  Partial : Extent

-- what is then said of what cannot be read: an error of the file, or of a part also a range that is missing
abbrev pub ErrorOf : Extent → Type 0
ErrorOf Whole = ParseError
ErrorOf Partial = ReadError

abbrev pub error_of : (x : Extent) → ParseError → ErrorOf x
error_of Whole e = e
error_of Partial e = Parse e

pub record FileOf (x : Extent) : Type 0 where
  -- of the file header as it is now: whether its order is little, its class, and e_shstrndx
  pub little : Bool
  pub class : Class
  pub e_shstrndx : ℕ
  -- its size, and the bytes of a range by its start and its size, or the error
  pub size : ℕ
  pub range : ℕ → ℕ → Result (List ℕ) (ErrorOf x)
  -- whether a table of section headers is declared, its headers in order, and header i or the error
  pub declares_sections : Bool
  pub sections : List SectionHeader
  pub section_at : ℕ → Result SectionHeader (ErrorOf x)
  pub segments : List ProgramHeader

abbrev pub ObjectFile : Type 0
ObjectFile = FileOf Whole

-- what a file that was opened is to its answers
abbrev pub object_file : {E : Type 0} → (E → Bool) → FileView E → ObjectFile
object_file little v = record {
  little = little v.ehdr.endianness;
  class = v.ehdr.class;
  e_shstrndx = v.ehdr.e_shstrndx;
  size = length v.bytes;
  range = λ start size. bytes_at size v.bytes start;
  declares_sections = is_some v.sections;
  sections = section_list v.sections;
  section_at = section_at v.sections;
  segments = segment_list v.segments;
}

-- ---- errors

-- the same result, with its error said in another way
abbrev pub err_map : {A E X : Type 0} → (E → X) → Result A E → Result A X
err_map to (Ok x) = Ok x
err_map to (Err e) = Err (to e)

-- an error of what a file holds
abbrev pub parsed : {x : Extent} → FileOf x → ParseError → ErrorOf x
parsed {x} file e = error_of x e

-- the size of an entry that a section header gives, if it is that of a record
abbrev pub entry_size : {x : Extent} → FileOf x → ℕ → SectionHeader → Result ℕ (ErrorOf x)
entry_size file size s = if s.sh_entsize == size then Ok size else Err (parsed file (BadEntsize (s.sh_entsize, size)))

-- ---- ranges

-- the bytes of a section: sh_size of them, starting at sh_offset
abbrev pub section_part : {x : Extent} → FileOf x → SectionHeader → Result (List ℕ) (ErrorOf x)
section_part file s = file.range s.sh_offset s.sh_size

-- bytes of the file as records of its order and class
abbrev pub table_of : {x : Extent} → FileOf x → List ℕ → Table
table_of file bytes = table_in file.little file.class bytes

-- the records that they hold
abbrev pub records_of : {A : Type 0} {x : Extent} → RecordType A → FileOf x → List ℕ → List A
records_of reads file bytes = table_items reads (table_of file bytes)
