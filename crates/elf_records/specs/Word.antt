-- A number of four or of eight bytes as a record of its own, the same in both classes.
use Rattle.std.specs.Prelude.{ℕ, [], ◌∷◌, slice_index, refl}
use Rattle.elf_records.specs.Record.{field, Layout, RecordType}
use Rattle.elf_records.specs.inner.RecordLaws.{by_layout}

abbrev pub u32_layout : Layout ℕ
u32_layout = record { fields = λ _. field 0 4 ∷ []; make = λ _ n. slice_index n 0 }

abbrev pub u32_reads : RecordType ℕ
u32_reads = by_layout u32_layout refl

abbrev pub u64_layout : Layout ℕ
u64_layout = record { fields = λ _. field 0 8 ∷ []; make = λ _ n. slice_index n 0 }

abbrev pub u64_reads : RecordType ℕ
u64_reads = by_layout u64_layout refl
