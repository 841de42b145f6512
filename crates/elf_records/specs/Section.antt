-- The field table of a section header (gABI, chapter "Sections").
use Rattle.std.specs.Prelude.{ℕ, List, [], ◌∷◌, slice_index, refl}
use Rattle.elf_records.specs.Record.{Field, field, Layout, RecordType}
use Rattle.elf_records.specs.inner.RecordLaws.{by_layout}
use Rattle.elf_records.specs.declared.file.Class.{Class}
use Rattle.elf_records.specs.declared.file.Class.TheVariants.{ELF32, ELF64}
use Rattle.elf_records.specs.declared.section.SectionHeader.{SectionHeader}

abbrev pub section_header_fields : Class → List Field
section_header_fields ELF32 =
    field 0 4 ∷  -- sh_name
    field 4 4 ∷  -- sh_type
    field 8 4 ∷  -- sh_flags
    field 12 4 ∷  -- sh_addr
    field 16 4 ∷  -- sh_offset
    field 20 4 ∷  -- sh_size
    field 24 4 ∷  -- sh_link
    field 28 4 ∷  -- sh_info
    field 32 4 ∷  -- sh_addralign
    field 36 4 ∷  -- sh_entsize
    []
section_header_fields ELF64 =
    field 0 4 ∷  -- sh_name
    field 4 4 ∷  -- sh_type
    field 8 8 ∷  -- sh_flags
    field 16 8 ∷  -- sh_addr
    field 24 8 ∷  -- sh_offset
    field 32 8 ∷  -- sh_size
    field 40 4 ∷  -- sh_link
    field 44 4 ∷  -- sh_info
    field 48 8 ∷  -- sh_addralign
    field 56 8 ∷  -- sh_entsize
    []

-- the header that the numbers of its fields make
abbrev pub section_header : Class → List ℕ → SectionHeader
section_header class n = record {
  sh_name = slice_index n 0;
  sh_type = slice_index n 1;
  sh_flags = slice_index n 2;
  sh_addr = slice_index n 3;
  sh_offset = slice_index n 4;
  sh_size = slice_index n 5;
  sh_link = slice_index n 6;
  sh_info = slice_index n 7;
  sh_addralign = slice_index n 8;
  sh_entsize = slice_index n 9;
}

abbrev pub section_header_layout : Layout SectionHeader
section_header_layout = record { fields = section_header_fields; make = section_header }

abbrev pub section_header_reads : RecordType SectionHeader
section_header_reads = by_layout section_header_layout refl
