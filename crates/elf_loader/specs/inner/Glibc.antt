-- The header of a file, as a function returns it.
use Rattle.std.specs.Prelude.{ℕ}
use Rattle.elf_records.specs.Table.{Table, table_view}
use Rattle.elf_records.specs.declared.parse.table.ParsingTable.{ParsingTable}

-- the type of a file, and the table of its program headers
abbrev pub with_view : {E P : Type 0} → ℕ × ParsingTable E P → ℕ × Table
with_view found = (found.0, table_view found.1)
