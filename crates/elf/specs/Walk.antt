-- A walk over headers.
use Rattle.std.specs.Prelude.{◌++◌, List}
use Rattle.elf_records.specs.Record.{RecordType}
use Rattle.elf_records.specs.Table.{items_left}
use Rattle.elf.specs.declared.walk.HeaderIterator.{HeaderIterator}

-- the headers that are left
abbrev pub headers_left : {E P : Type 0} → RecordType P → HeaderIterator E P → List P
headers_left reads s = s.list.now ++ items_left reads s.table
