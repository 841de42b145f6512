-- The field table of a record of one byte and a number of two.
use Rattle.std.specs.Prelude.{[], ◌∷◌, slice_index, refl}
use Rattle.elf_records.specs.Record.{field, Layout, RecordType}
use Rattle.elf_records.specs.inner.RecordLaws.{by_layout}
use Rattle.elf_tests.specs.declared.user_types.triple.Triple.{Triple}

abbrev pub triple_layout : Layout Triple
triple_layout = record {
  fields = λ _. field 0 1 ∷ field 1 2 ∷ [];
  make = λ _ n. record { kind = slice_index n 0; value = slice_index n 1 };
}

abbrev pub triple_reads : RecordType Triple
triple_reads = by_layout triple_layout refl
