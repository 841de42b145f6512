-- The field table of a compression header (gABI, chapter "Sections", "Section Compression").
use Rattle.std.specs.Prelude.{ℕ, List, [], ◌∷◌, slice_index, refl}
use Rattle.elf_records.specs.Record.{Field, field, Layout, RecordType}
use Rattle.elf_records.specs.inner.RecordLaws.{by_layout}
use Rattle.elf_records.specs.declared.file.Class.{Class}
use Rattle.elf_records.specs.declared.file.Class.TheVariants.{ELF32, ELF64}
use Rattle.elf_records.specs.declared.compression.CompressionHeader.{CompressionHeader}

abbrev pub compression_header_fields : Class → List Field
compression_header_fields ELF32 =
    field 0 4 ∷  -- ch_type
    field 4 4 ∷  -- ch_size
    field 8 4 ∷  -- ch_addralign
    []
compression_header_fields ELF64 =
    field 0 4 ∷  -- ch_type
    field 4 4 ∷  -- ch_reserved
    field 8 8 ∷  -- ch_size
    field 16 8 ∷  -- ch_addralign
    []

-- the header that the numbers of its fields make; the reserved word is not stored
abbrev pub compression_header : Class → List ℕ → CompressionHeader
compression_header ELF32 n = record {
  ch_type = slice_index n 0;
  ch_size = slice_index n 1;
  ch_addralign = slice_index n 2;
}
compression_header ELF64 n = record {
  ch_type = slice_index n 0;
  ch_size = slice_index n 2;
  ch_addralign = slice_index n 3;
}

abbrev pub compression_header_layout : Layout CompressionHeader
compression_header_layout = record { fields = compression_header_fields; make = compression_header }

abbrev pub compression_header_reads : RecordType CompressionHeader
compression_header_reads = by_layout compression_header_layout refl
