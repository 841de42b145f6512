-- The field table of a dynamic entry (gABI, chapter "Dynamic Section").
use Rattle.std.specs.Prelude.{ℕ, ℤ, Bool, List, [], ◌∷◌, slice_index, refl}
use Rattle.std.specs.Ordering.{int_eq}
use Rattle.elf_records.specs.Class.{address_size}
use Rattle.elf_records.specs.Number.{signed_number}
use Rattle.elf_records.specs.Record.{Field, field, Layout, RecordType}
use Rattle.elf_records.specs.inner.RecordLaws.{by_layout}
use Rattle.elf_records.specs.declared.file.Class.{Class}
use Rattle.elf_records.specs.declared.file.Class.TheVariants.{ELF32, ELF64}
use Rattle.elf_records.specs.declared.dynamic.Dyn.{Dyn}

abbrev pub dyn_fields : Class → List Field
dyn_fields ELF32 =
    field 0 4 ∷  -- d_tag
    field 4 4 ∷  -- d_un
    []
dyn_fields ELF64 =
    field 0 8 ∷  -- d_tag
    field 8 8 ∷  -- d_un
    []

-- the entry that the numbers of its fields make; a tag is signed and has the size of an address
abbrev pub dyn_entry : Class → List ℕ → Dyn
dyn_entry class n = record {
  d_tag = signed_number (address_size class) (slice_index n 0);
  d_un = slice_index n 1;
}

abbrev pub dyn_layout : Layout Dyn
dyn_layout = record { fields = dyn_fields; make = dyn_entry }

abbrev pub dyn_reads : RecordType Dyn
dyn_reads = by_layout dyn_layout refl

-- the one number after the tag, a value or an address
abbrev pub d_un_view : Dyn → ℕ
d_un_view entry = entry.d_un

-- whether an entry has this tag, one of DT_*. A tag is signed, so `==`, which is of unsigned numbers, does not do.
abbrev pub has_tag : ℤ → Dyn → Bool
has_tag tag entry = int_eq entry.d_tag tag
