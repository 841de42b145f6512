-- Files that C holds open.
use Rattle.std.specs.Prelude.{◌≡◌, ℕ, Bool, true, false, List, [], length, Option, Some, None, Result, Err}
use Rattle.elf_records.specs.Endian.{any_is_little, any_of_byte}
use Rattle.elf_records.specs.Segment.{program_header_reads}
use Rattle.elf_records.specs.Table.{Table, table_get}
use Rattle.elf_records.specs.declared.endian.AnyEndian.{AnyEndian}
use Rattle.elf_records.specs.declared.file.FileHeader.{FileHeader}
use Rattle.elf_records.specs.declared.parse.ParseError.{ParseError}
use Rattle.elf_records.specs.declared.parse.ParseError.TheVariants.{BadOffset}
use Rattle.elf_records.specs.declared.segment.ProgramHeader.{ProgramHeader}
use Rattle.elf_reading.specs.Opening.{FileView, opened_file}
use Rattle.elf.specs.ObjectFile.{ObjectFile, object_file}
use Rattle.elf_c.specs.Tables.{HasNoBytes, class_in, is_64, order_in, table_of_c}
use Rattle.elf_c.specs.declared.file.NugwierFile.{NugwierFile}
use Rattle.elf_c.specs.declared.file.NugwierHeader.{NugwierHeader}
use Rattle.elf_c.specs.declared.table.NugwierTable.{NugwierTable}

abbrev pub header_shown : FileHeader AnyEndian → NugwierHeader
header_shown h = record {
  little = any_is_little h.endianness;
  is_64 = is_64 h.class;
  osabi = h.osabi;
  abiversion = h.abiversion;
  version = h.version;
  kind = h.e_type;
  machine = h.e_machine;
  flags = h.e_flags;
  entry = h.e_entry;
  phoff = h.e_phoff;
  shoff = h.e_shoff;
  ehsize = h.e_ehsize;
  phentsize = h.e_phentsize;
  phnum = h.e_phnum;
  shentsize = h.e_shentsize;
  shnum = h.e_shnum;
  shstrndx = h.e_shstrndx;
}

-- the header that C gives
abbrev pub header_in : NugwierHeader → FileHeader AnyEndian
header_in h = record {
  class = class_in h.is_64;
  endianness = order_in h.little;
  version = h.version;
  osabi = h.osabi;
  abiversion = h.abiversion;
  e_type = h.kind;
  e_machine = h.machine;
  e_entry = h.entry;
  e_phoff = h.phoff;
  e_shoff = h.shoff;
  e_flags = h.flags;
  e_ehsize = h.ehsize;
  e_phentsize = h.phentsize;
  e_phnum = h.phnum;
  e_shentsize = h.shentsize;
  e_shnum = h.shnum;
  e_shstrndx = h.shstrndx;
}

-- a table that C declares or not
abbrev pub table_if : Bool → NugwierTable → Option Table
table_if true t = Some (table_of_c t)
table_if false t = None

-- the opened file whose parts a handle holds
abbrev pub file_view : NugwierFile → FileView AnyEndian
file_view f = record {
  ehdr = header_in f.header;
  bytes = f.bytes.now;
  sections = table_if f.has_sections f.sections;
  segments = table_if f.has_segments f.segments;
}

-- a table that is not declared has the order and the class of the file, and no bytes
abbrev pub MissingAreEmpty : NugwierFile → Type 0
MissingAreEmpty f =
    (f.has_sections ≡ false → HasNoBytes f.header.little f.header.is_64 f.sections)
    × (f.has_segments ≡ false → HasNoBytes f.header.little f.header.is_64 f.segments)

-- all of the file lies in its bytes, and no ranges are given
abbrev pub IsWhole : NugwierFile → Type 0
IsWhole f = (f.size ≡ length f.bytes.now) × (f.ranges.now ≡ [])

-- its headers over these bytes
abbrev pub view_over : NugwierFile → List ℕ → FileView AnyEndian
view_over f bytes = record (file_view f) { bytes = bytes }

-- the object file that these are to the answers about it
abbrev pub file_over : NugwierFile → List ℕ → ObjectFile
file_over f bytes = object_file any_is_little (view_over f bytes)

-- the file that lies in its bytes
abbrev pub file_of_c : NugwierFile → ObjectFile
file_of_c f = object_file any_is_little (file_view f)

-- the file that bytes hold
abbrev pub opened_in : List ℕ → Result (FileView AnyEndian) ParseError
opened_in bytes = opened_file any_is_little any_of_byte bytes

-- program header i of a table, or the error; where no table is declared there is none
abbrev pub segment_at : Option Table → ℕ → Result ProgramHeader ParseError
segment_at None i = Err (BadOffset i)
segment_at (Some t) i = table_get program_header_reads t i
