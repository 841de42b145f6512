-- Headers of one kind, which are in a table of the file or in a list.
use Rattle.std.specs.Prelude.{ℕ, List, Result, ok_or, slice_get}
use Rattle.elf_records.specs.Record.{RecordType}
use Rattle.elf_records.specs.Table.{table_get, table_items, table_view}
use Rattle.elf_records.specs.declared.parse.ParseError.{ParseError}
use Rattle.elf_records.specs.declared.parse.ParseError.TheVariants.{BadOffset}
use Rattle.elf.specs.declared.headers.HeaderList.{HeaderList}
use Rattle.elf.specs.declared.headers.HeaderList.TheVariants.{Table, List as OfList}

-- the headers in order
abbrev pub header_list : {E P : Type 0} → RecordType P → HeaderList E P → List P
header_list reads (Table t) = table_items reads (table_view t)
header_list reads (OfList list) = list.now

-- header i, or the error: that of the table, or that the list has none
abbrev pub header_at : {E P : Type 0} → RecordType P → HeaderList E P → ℕ → Result P ParseError
header_at reads (Table t) i = table_get reads (table_view t) i
header_at reads (OfList list) i = ok_or (slice_get list.now i) (BadOffset i)
