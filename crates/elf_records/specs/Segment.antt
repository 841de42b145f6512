-- The field table of a program header (gABI, chapter "Program Header").
use Rattle.std.specs.Prelude.{ℕ, List, [], ◌∷◌, slice_index, refl}
use Rattle.elf_records.specs.Record.{Field, field, Layout, RecordType}
use Rattle.elf_records.specs.inner.RecordLaws.{by_layout}
use Rattle.elf_records.specs.declared.file.Class.{Class}
use Rattle.elf_records.specs.declared.file.Class.TheVariants.{ELF32, ELF64}
use Rattle.elf_records.specs.declared.segment.ProgramHeader.{ProgramHeader}

abbrev pub program_header_fields : Class → List Field
program_header_fields ELF32 =
    field 0 4 ∷  -- p_type
    field 4 4 ∷  -- p_offset
    field 8 4 ∷  -- p_vaddr
    field 12 4 ∷  -- p_paddr
    field 16 4 ∷  -- p_filesz
    field 20 4 ∷  -- p_memsz
    field 24 4 ∷  -- p_flags
    field 28 4 ∷  -- p_align
    []
program_header_fields ELF64 =
    field 0 4 ∷  -- p_type
    field 4 4 ∷  -- p_flags
    field 8 8 ∷  -- p_offset
    field 16 8 ∷  -- p_vaddr
    field 24 8 ∷  -- p_paddr
    field 32 8 ∷  -- p_filesz
    field 40 8 ∷  -- p_memsz
    field 48 8 ∷  -- p_align
    []

-- the header that the numbers of its fields make
abbrev pub program_header : Class → List ℕ → ProgramHeader
program_header ELF32 n = record {
  p_type = slice_index n 0;
  p_offset = slice_index n 1;
  p_vaddr = slice_index n 2;
  p_paddr = slice_index n 3;
  p_filesz = slice_index n 4;
  p_memsz = slice_index n 5;
  p_flags = slice_index n 6;
  p_align = slice_index n 7;
}
program_header ELF64 n = record {
  p_type = slice_index n 0;
  p_flags = slice_index n 1;
  p_offset = slice_index n 2;
  p_vaddr = slice_index n 3;
  p_paddr = slice_index n 4;
  p_filesz = slice_index n 5;
  p_memsz = slice_index n 6;
  p_align = slice_index n 7;
}

abbrev pub program_header_layout : Layout ProgramHeader
program_header_layout = record { fields = program_header_fields; make = program_header }

abbrev pub program_header_reads : RecordType ProgramHeader
program_header_reads = by_layout program_header_layout refl
