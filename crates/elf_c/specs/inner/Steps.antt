-- A file that is opened range by range: the steps of `elf_reading/specs/Opening`, over ranges that may be missing.
use Rattle.std.specs.Prelude.{ℕ, ◌+◌, ◌-◌, ◌*◌, ◌^◌, ◌==◌, min, nat_le, if◌then◌else◌, List, Option, Some, None}
use Rattle.std.specs.Prelude.{Result, Ok, Err}
use Rattle.elf_abi.specs.Values.{ei_nident}
use Rattle.elf_records.specs.Endian.{any_is_little, any_of_byte}
use Rattle.elf_records.specs.File.{header_with_tail, ident_of, tail_fields}
use Rattle.elf_records.specs.Number.{ok_map}
use Rattle.elf_records.specs.Record.{◌>>=◌, record_by, size_by, size_of}
use Rattle.elf_records.specs.Section.{section_header_layout}
use Rattle.elf_records.specs.Segment.{program_header_layout}
use Rattle.elf_records.specs.Table.{Table, table_in}
use Rattle.elf_records.specs.declared.endian.AnyEndian.{AnyEndian}
use Rattle.elf_records.specs.declared.file.FileHeader.{FileHeader}
use Rattle.elf_records.specs.declared.parse.ParseError.{ParseError}
use Rattle.elf_records.specs.declared.parse.ParseError.TheVariants.{BadEntsize, IntegerOverflow, SliceReadError}
use Rattle.elf_records.specs.declared.section.SectionHeader.{SectionHeader}
use Rattle.elf_reading.specs.Opening.{FileView}
use Rattle.elf_reading.specs.Tables.{count_word, declared_sections, declared_segments}
use Rattle.elf_reading.specs.declared.tables.DeclaredTable.{DeclaredTable}
use Rattle.elf.specs.LoadedRanges.{parts_in, ranges_in}
use Rattle.elf.specs.ObjectFile.{err_map}
use Rattle.elf.specs.Parts.{Ranges}
use Rattle.elf.specs.declared.loaded_ranges.LoadedParts.{LoadedParts}
use Rattle.elf.specs.declared.read_error.ReadError.{ReadError}
use Rattle.elf.specs.declared.read_error.ReadError.TheVariants.{Parse}

-- the ranges that are loaded
abbrev pub ranges_of : LoadedParts → Ranges
ranges_of loaded = ranges_in loaded.size (parts_in loaded.front.now loaded.ranges.now)

-- an error of bytes that begin at o, as the file has it
abbrev pub moved : ℕ → ParseError → ParseError
moved o (SliceReadError range) =
    if nat_le (2 ^ 64) (o + range.0) then IntegerOverflow
    else if nat_le (2 ^ 64) (o + range.1) then IntegerOverflow
    else SliceReadError (o + range.0, o + range.1)
moved o e = e

module _ (size : ℕ) (range : Ranges) where
  unfoldable pub header_by : Result (FileHeader AnyEndian) ReadError
  header_by =
      range 0 ei_nident >>= λ front. err_map Parse (ident_of any_of_byte front) >>= λ ident.
      range ei_nident (size_of (tail_fields ident.1)) >>= λ tail.
      err_map Parse (header_with_tail any_is_little ident tail)

  -- the first section header; the part of it that lies in the file is read
  abbrev pub first_by : FileHeader AnyEndian → Result SectionHeader ReadError
  first_by h =
      range (min h.e_shoff size) (min (size_by section_header_layout h.class) (size - h.e_shoff)) >>= λ part.
      err_map (λ e. Parse (moved h.e_shoff e))
      (record_by section_header_layout (any_is_little h.endianness) h.class part 0)

  abbrev pub count_by : FileHeader AnyEndian → DeclaredTable → Result ℕ ReadError
  count_by h table =
      if table.count == table.extended then ok_map (count_word table.word) (first_by h) else Ok table.count

  -- the bytes of n records of this size
  abbrev pub records_by : ℕ → DeclaredTable → ℕ → Result (List ℕ) ReadError
  records_by each table n =
      if table.entsize == each then range table.offset (each * n) else Err (Parse (BadEntsize (table.entsize, each)))

  abbrev pub table_by : FileHeader AnyEndian → ℕ → DeclaredTable → Result (Option Table) ReadError
  table_by h each table =
      if table.offset == 0 then Ok None
      else count_by h table >>= λ n. records_by each table n >>= λ part.
      Ok (Some (table_in (any_is_little h.endianness) h.class part))

  -- with these bytes at the start
  abbrev pub opened_by : List ℕ → Result (FileView AnyEndian) ReadError
  opened_by bytes =
      header_by >>= λ h.
      table_by h (size_by section_header_layout h.class) (declared_sections h) >>= λ sections.
      table_by h (size_by program_header_layout h.class) (declared_segments h) >>= λ segments.
      Ok (record { ehdr = h; bytes = bytes; sections = sections; segments = segments })
