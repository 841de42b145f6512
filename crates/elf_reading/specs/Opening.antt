-- How a file is opened (gABI, chapters "ELF Header", "Sections" and "Program Header"): its header is read,
-- and the two tables that it declares are found. The file has the error of the first step that has one.
use Rattle.std.specs.Prelude.{ℕ, ◌*◌, ◌==◌, Bool, if◌then◌else◌, List, Option, Some, None, Result, Ok}
use Rattle.std.specs.Prelude.{Err, [], is_some}
use Rattle.std.specs.Option.{option_map}
use Rattle.elf_abi.specs.Values.{ei_nident, pn_xnum}
use Rattle.elf_records.specs.Number.{bytes_at, ok_map}
use Rattle.elf_records.specs.Record.{◌>>=◌, record_by, size_by, size_of}
use Rattle.elf_records.specs.File.{header_with_tail, ident_of, tail_fields}
use Rattle.elf_records.specs.Section.{section_header_layout, section_header_reads}
use Rattle.elf_records.specs.Segment.{program_header_layout, program_header_reads}
use Rattle.elf_records.specs.Table.{Table, table_in, table_items, table_view}
use Rattle.elf_records.specs.declared.file.FileHeader.{FileHeader}
use Rattle.elf_records.specs.declared.section.SectionHeader.{SectionHeader}
use Rattle.elf_records.specs.declared.segment.ProgramHeader.{ProgramHeader}
use Rattle.elf_records.specs.declared.parse.ParseError.{ParseError}
use Rattle.elf_records.specs.declared.parse.ParseError.TheVariants.{BadEntsize}
use Rattle.elf_reading.specs.declared.opening.slice.Opened.{Opened}
use Rattle.elf_reading.specs.declared.opening.source.SourceHeaders.{SourceHeaders}

-- ---- the view of an opened file

-- its header as it is now, its bytes, and the two tables that it declares
pub record FileView (E : Type 0) : Type 0 where
  pub ehdr : FileHeader E
  pub bytes : List ℕ
  pub sections : Option Table
  pub segments : Option Table

-- the section headers of a table; where none is declared there are none
abbrev pub section_list : Option Table → List SectionHeader
section_list None = []
section_list (Some t) = table_items section_header_reads t

-- the program headers of a table; where none is declared there are none
abbrev pub segment_list : Option Table → List ProgramHeader
segment_list None = []
segment_list (Some t) = table_items program_header_reads t

-- ---- the same in memory

-- the headers of a file, in memory: the file header as it is now, whether a table of section headers is declared, the
-- section headers, and the program headers
pub record StreamHeaders (E : Type 0) : Type 0 where
  pub ehdr : FileHeader E
  pub declares_sections : Bool
  pub sections : List SectionHeader
  pub segments : List ProgramHeader

-- the headers of a file that was opened
abbrev pub headers_of : {E : Type 0} → FileView E → StreamHeaders E
headers_of v = record {
  ehdr = v.ehdr;
  declares_sections = is_some v.sections;
  sections = section_list v.sections;
  segments = segment_list v.segments;
}

-- ---- its steps

-- n records of this size at an offset, if the header gives this size; `IntegerOverflow`
-- where their size or their end passes 64 bits
abbrev pub table_bytes : ℕ → ℕ → ℕ → ℕ → List ℕ → Result (List ℕ) ParseError
table_bytes size entsize count offset bytes =
    if entsize == size then bytes_at (size * count) bytes offset else Err (BadEntsize (entsize, size))

-- ---- a type of byte orders, by its ghost members: which of its orders are little, and which order a byte
-- names

module _ {E : Type 0} (little : E → Bool) where
  -- the header at the front: the identification in the first sixteen bytes, and the tail after them
  unfoldable pub header_at_front : (ℕ → Option E) → List ℕ → Result (FileHeader E) ParseError
  header_at_front of_byte bytes =
      bytes_at ei_nident bytes 0 >>= λ front. ident_of of_byte front >>= λ ident.
      bytes_at (size_of (tail_fields ident.1)) bytes ei_nident >>= λ tail. header_with_tail little ident tail

  -- the first section header, at e_shoff
  abbrev pub first_section : FileHeader E → List ℕ → Result SectionHeader ParseError
  first_section h bytes = record_by section_header_layout (little h.endianness) h.class bytes h.e_shoff

  -- e_shnum, or where that is 0 the sh_size of the first section header
  abbrev pub section_count : FileHeader E → List ℕ → Result ℕ ParseError
  section_count h bytes =
      if h.e_shnum == 0 then ok_map (λ first. first.sh_size) (first_section h bytes) else Ok h.e_shnum

  -- e_phnum, or where that is PN_XNUM the sh_info of the first section header
  abbrev pub segment_count : FileHeader E → List ℕ → Result ℕ ParseError
  segment_count h bytes =
      if h.e_phnum == pn_xnum then ok_map (λ first. first.sh_info) (first_section h bytes) else Ok h.e_phnum

  -- the section headers; a file whose e_shoff is 0 declares none
  unfoldable pub section_table : FileHeader E → List ℕ → Result (Option Table) ParseError
  section_table h bytes =
      if h.e_shoff == 0 then Ok None
      else section_count h bytes >>= λ count.
      table_bytes (size_by section_header_layout h.class) h.e_shentsize count h.e_shoff bytes >>= λ part.
      Ok (Some (table_in (little h.endianness) h.class part))

  -- the program headers; a file whose e_phoff is 0 declares none
  unfoldable pub segment_table : FileHeader E → List ℕ → Result (Option Table) ParseError
  segment_table h bytes =
      if h.e_phoff == 0 then Ok None
      else segment_count h bytes >>= λ count.
      table_bytes (size_by program_header_layout h.class) h.e_phentsize count h.e_phoff bytes >>= λ part.
      Ok (Some (table_in (little h.endianness) h.class part))

  -- the file that the bytes hold, or why they hold none
  abbrev pub opened_file : (ℕ → Option E) → List ℕ → Result (FileView E) ParseError
  opened_file of_byte bytes =
      header_at_front of_byte bytes >>= λ h.
      section_table h bytes >>= λ sections.
      segment_table h bytes >>= λ segments.
      Ok (record { ehdr = h; bytes = bytes; sections = sections; segments = segments })

  -- the file through its header and its program headers alone, as the dynamic linker has it: no section headers are
  -- declared
  abbrev pub opened_by_segments : (ℕ → Option E) → List ℕ → Result (FileView E) ParseError
  opened_by_segments of_byte bytes =
      header_at_front of_byte bytes >>= λ h.
      segment_table h bytes >>= λ segments.
      Ok (record { ehdr = h; bytes = bytes; sections = None; segments = segments })

-- the header and the two tables that were found in these bytes
abbrev pub opened_view : {E : Type 0} → List ℕ → Opened E → FileView E
opened_view bytes found = record {
  ehdr = found.ehdr;
  bytes = bytes;
  sections = option_map table_view found.shdrs;
  segments = option_map table_view found.phdrs;
}

-- the headers that were read from a source
abbrev pub read_headers : {E A : Type 0} → SourceHeaders E A → StreamHeaders E
read_headers found = record {
  ehdr = found.ehdr;
  declares_sections = found.declares_sections;
  sections = found.shdrs.items;
  segments = found.phdrs.items;
}
