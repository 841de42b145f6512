-- The field table of a symbol (gABI, chapter "Symbol Table").
use Rattle.std.specs.Prelude.{ℕ, ◌/◌, ◌%◌, List, [], ◌∷◌, slice_index, refl}
use Rattle.elf_records.specs.Record.{Field, field, Layout, RecordType}
use Rattle.elf_records.specs.inner.RecordLaws.{by_layout}
use Rattle.elf_records.specs.declared.file.Class.{Class}
use Rattle.elf_records.specs.declared.file.Class.TheVariants.{ELF32, ELF64}
use Rattle.elf_records.specs.declared.symbol.Symbol.{Symbol}

abbrev pub symbol_fields : Class → List Field
symbol_fields ELF32 =
    field 0 4 ∷  -- st_name
    field 4 4 ∷  -- st_value
    field 8 4 ∷  -- st_size
    field 12 1 ∷  -- st_info
    field 13 1 ∷  -- st_other
    field 14 2 ∷  -- st_shndx
    []
symbol_fields ELF64 =
    field 0 4 ∷  -- st_name
    field 4 1 ∷  -- st_info
    field 5 1 ∷  -- st_other
    field 6 2 ∷  -- st_shndx
    field 8 8 ∷  -- st_value
    field 16 8 ∷  -- st_size
    []

-- the symbol that the numbers of its fields make
abbrev pub symbol : Class → List ℕ → Symbol
symbol ELF32 n = record {
  st_name = slice_index n 0;
  st_value = slice_index n 1;
  st_size = slice_index n 2;
  st_info = slice_index n 3;
  st_other = slice_index n 4;
  st_shndx = slice_index n 5;
}
symbol ELF64 n = record {
  st_name = slice_index n 0;
  st_info = slice_index n 1;
  st_other = slice_index n 2;
  st_shndx = slice_index n 3;
  st_value = slice_index n 4;
  st_size = slice_index n 5;
}

abbrev pub symbol_layout : Layout Symbol
symbol_layout = record { fields = symbol_fields; make = symbol }

abbrev pub symbol_reads : RecordType Symbol
symbol_reads = by_layout symbol_layout refl

-- the type and the binding of a symbol share one number, st_info
abbrev pub symbol_type : Symbol → ℕ
symbol_type s = s.st_info % 16

abbrev pub symbol_binding : Symbol → ℕ
symbol_binding s = s.st_info / 16

-- who sees it: the lowest two bits of st_other
abbrev pub symbol_visibility : Symbol → ℕ
symbol_visibility s = s.st_other % 4
