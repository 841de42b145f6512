-- Tables of records as C gives and gets them: their bytes, with their byte order and class.
use Rattle.std.specs.Prelude.{◌≡◌, ℕ, Bool, true, false, if◌then◌else◌, List, [], Option, Some, None}
use Rattle.elf_records.specs.Table.{Table, table_in}
use Rattle.elf_records.specs.declared.endian.AnyEndian.{AnyEndian}
use Rattle.elf_records.specs.declared.endian.AnyEndian.TheVariants.{Little, Big}
use Rattle.elf_records.specs.declared.file.Class.{Class}
use Rattle.elf_records.specs.declared.file.Class.TheVariants.{ELF32, ELF64}
use Rattle.elf_c.specs.declared.strings.NugwierBytes.{NugwierBytes}
use Rattle.elf_c.specs.declared.strings.NugwierFoundBytes.{NugwierFoundBytes}
use Rattle.elf_c.specs.declared.table.NugwierTable.{NugwierTable}

abbrev pub order_in : Bool → AnyEndian
order_in true = Little
order_in false = Big

abbrev pub class_in : Bool → Class
class_in true = ELF64
class_in false = ELF32

abbrev pub is_64 : Class → Bool
is_64 ELF32 = false
is_64 ELF64 = true

-- the table that a struct of C holds
abbrev pub table_of_c : NugwierTable → Table
table_of_c t = table_in t.little (class_in t.is_64) t.bytes.now

-- a struct with this order and this class, and no bytes
abbrev pub HasNoBytes : Bool → Bool → NugwierTable → Type 0
HasNoBytes little is_64 t = (t.little ≡ little) × (t.is_64 ≡ is_64) × (t.bytes.now ≡ [])

-- some bytes
abbrev pub bytes_view : NugwierBytes → List ℕ
bytes_view b = b.bytes.now

-- some bytes, if there are any to be found
abbrev pub found_bytes : NugwierFoundBytes → Option (List ℕ)
found_bytes b = if b.found then Some b.bytes.now else None

-- the same struct, with nothing found
abbrev pub no_bytes_in : NugwierFoundBytes → NugwierFoundBytes
no_bytes_in b = record b { found = false }
