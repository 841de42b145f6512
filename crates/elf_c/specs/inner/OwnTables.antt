-- The tables of an opened file that a handle is made of.
use Rattle.std.specs.Prelude.{◌≡◌, ℕ, ⊤, List, [], Option, Some, None}
use Rattle.elf_records.specs.Endian.{any_is_little}
use Rattle.elf_records.specs.Table.{Table, table_in}
use Rattle.elf_records.specs.declared.endian.AnyEndian.{AnyEndian}
use Rattle.elf_records.specs.declared.file.FileHeader.{FileHeader}
use Rattle.elf_reading.specs.Opening.{FileView}

-- the bytes of a table that is declared
abbrev pub bytes_if : Option Table → List ℕ
bytes_if (Some t) = t.bytes
bytes_if None = []

-- a table that has the order and the class of the file
abbrev pub IsOwn : FileHeader AnyEndian → Option Table → Type 0
IsOwn h None = ⊤
IsOwn h (Some t) = t ≡ table_in (any_is_little h.endianness) h.class t.bytes

abbrev pub HasOwnTables : FileView AnyEndian → Type 0
HasOwnTables v = IsOwn v.ehdr v.sections × IsOwn v.ehdr v.segments
