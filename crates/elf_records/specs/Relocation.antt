-- The field tables of relocations, without and with an addend (gABI, chapter "Relocation").
use Rattle.std.specs.Prelude.{ℕ, ◌/◌, ◌%◌, ◌^◌, List, [], ◌∷◌, Some, None, slice_index, refl}
use Rattle.elf_records.specs.Class.{address_size}
use Rattle.elf_records.specs.Number.{signed_number}
use Rattle.elf_records.specs.Record.{Field, field, Layout, RecordType}
use Rattle.elf_records.specs.inner.RecordLaws.{by_layout}
use Rattle.elf_records.specs.declared.file.Class.{Class}
use Rattle.elf_records.specs.declared.file.Class.TheVariants.{ELF32, ELF64}
use Rattle.elf_records.specs.declared.relocation.Rel.{Rel}
use Rattle.elf_records.specs.declared.relocation.Rela.{Rela}
use Rattle.elf_records.specs.declared.relocation.RelocationFields.{RelocationFields}

-- the index of the symbol and the type of the relocation share one number, r_info
abbrev pub sym_of_info : Class → ℕ → ℕ
sym_of_info ELF32 info = info / 256
sym_of_info ELF64 info = info / 2 ^ 32

abbrev pub type_of_info : Class → ℕ → ℕ
type_of_info ELF32 info = info % 256
type_of_info ELF64 info = info % 2 ^ 32

-- ---- without an addend

abbrev pub rel_fields : Class → List Field
rel_fields ELF32 =
    field 0 4 ∷  -- r_offset
    field 4 4 ∷  -- r_info
    []
rel_fields ELF64 =
    field 0 8 ∷  -- r_offset
    field 8 8 ∷  -- r_info
    []

abbrev pub rel : Class → List ℕ → Rel
rel class n = record {
  r_offset = slice_index n 0;
  r_sym = sym_of_info class (slice_index n 1);
  r_type = type_of_info class (slice_index n 1);
}

abbrev pub rel_layout : Layout Rel
rel_layout = record { fields = rel_fields; make = rel }

abbrev pub rel_reads : RecordType Rel
rel_reads = by_layout rel_layout refl

-- ---- with an addend, which is signed and has the size of an address

abbrev pub rela_fields : Class → List Field
rela_fields ELF32 =
    field 0 4 ∷  -- r_offset
    field 4 4 ∷  -- r_info
    field 8 4 ∷  -- r_addend
    []
rela_fields ELF64 =
    field 0 8 ∷  -- r_offset
    field 8 8 ∷  -- r_info
    field 16 8 ∷  -- r_addend
    []

abbrev pub rela : Class → List ℕ → Rela
rela class n = record {
  r_offset = slice_index n 0;
  r_sym = sym_of_info class (slice_index n 1);
  r_type = type_of_info class (slice_index n 1);
  r_addend = signed_number (address_size class) (slice_index n 2);
}

abbrev pub rela_layout : Layout Rela
rela_layout = record { fields = rela_fields; make = rela }

abbrev pub rela_reads : RecordType Rela
rela_reads = by_layout rela_layout refl

-- ---- with or without an addend

abbrev pub fields_of_rel : Rel → RelocationFields
fields_of_rel r = record { r_offset = r.r_offset; r_sym = r.r_sym; r_type = r.r_type; r_addend = None }

abbrev pub fields_of_rela : Rela → RelocationFields
fields_of_rela r = record { r_offset = r.r_offset; r_sym = r.r_sym; r_type = r.r_type; r_addend = Some r.r_addend }
