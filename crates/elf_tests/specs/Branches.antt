-- The field table of a record with a signed number: a number of two bytes, and a signed one of four.
use Rattle.std.specs.Prelude.{[], ◌∷◌, slice_index, refl}
use Rattle.elf_records.specs.Number.{signed_number}
use Rattle.elf_records.specs.Record.{field, Layout, RecordType}
use Rattle.elf_records.specs.inner.RecordLaws.{by_layout}
use Rattle.elf_tests.specs.declared.user_types.branch.Branch.{Branch}

abbrev pub branch_layout : Layout Branch
branch_layout = record {
  fields = λ _. field 0 2 ∷ field 2 4 ∷ [];
  make = λ _ n. record { line = slice_index n 0; distance = signed_number 4 (slice_index n 1) };
}

abbrev pub branch_reads : RecordType Branch
branch_reads = by_layout branch_layout refl
