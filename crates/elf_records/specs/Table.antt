-- Tables: consecutive records of one size (gABI, "Sections" and "Program Header").
use Rattle.std.specs.Prelude.{ℕ, zero, suc, ◌+◌, ◌-◌, ◌*◌, ◌/◌, ◌^◌, Bool, if◌then◌else◌, ◌==◌, nat_le, nat_lt, List}
use Rattle.std.specs.Prelude.{[], ◌∷◌, length, Result, Ok, Err}
use Rattle.elf_records.specs.declared.file.Class.{Class}
use Rattle.elf_records.specs.declared.parse.ParseError.{ParseError}
use Rattle.elf_records.specs.declared.parse.ParseError.TheVariants.{BadOffset, IntegerOverflow}
use Rattle.elf_records.specs.Record.{RecordType}
use Rattle.elf_records.specs.declared.parse.table.ParsingTable.{ParsingTable}
use Rattle.elf_records.specs.declared.parse.table.ParsingIterator.{ParsingIterator}

-- the bytes of a table, and the order and the class of its records
pub record Table : Type 0 where
  pub little : Bool
  pub class : Class
  pub bytes : List ℕ

abbrev pub table_in : Bool → Class → List ℕ → Table
table_in little class bytes = record { little = little; class = class; bytes = bytes }

-- ---- `gives` reads a record at an offset, and a record has `size` bytes

-- record i of the bytes, or the error
abbrev pub item_at : {A : Type 0} → (List ℕ → ℕ → Result A ParseError) → ℕ → List ℕ → ℕ → Result A ParseError
item_at gives size bytes i =
    if length bytes == 0 then Err (BadOffset i)
    else if nat_le (2 ^ 64) (i * size) then Err IntegerOverflow
    else if nat_lt (length bytes) (i * size) then Err (BadOffset i)
    else gives bytes (i * size)

-- a record, if it was read, and those after it
abbrev pub unless_refused : {A : Type 0} → Result A ParseError → List A → List A
unless_refused (Ok x) xs = x ∷ xs
unless_refused (Err e) xs = []

-- the records at o, o + size and so on, up to the first that cannot be read, and no more than the limit
abbrev pub items_from : {A : Type 0} → (List ℕ → ℕ → Result A ParseError) → ℕ → ℕ → List ℕ → ℕ → List A
items_from gives size zero bytes o = []
items_from gives size (suc limit) bytes o =
    unless_refused (gives bytes o) (items_from gives size limit bytes (o + size))

-- all records of the bytes up to the first that cannot be read; since a record has a byte at least, there are no more
-- records than bytes
abbrev pub items : {A : Type 0} → (List ℕ → ℕ → Result A ParseError) → ℕ → List ℕ → List A
items gives size bytes = items_from gives size (length bytes) bytes 0

-- ---- a type of records, by how it is read

module _ {A : Type 0} (reads : RecordType A) where
  -- how many records fit
  abbrev pub table_len : Table → ℕ
  table_len t = length t.bytes / reads.size t.class

  -- record i, or the error
  abbrev pub table_get : Table → ℕ → Result A ParseError
  table_get t i = item_at (reads.record_at t.little t.class) (reads.size t.class) t.bytes i

  -- the records up to the first that cannot be read
  abbrev pub table_items : Table → List A
  table_items t = items (reads.record_at t.little t.class) (reads.size t.class) t.bytes

-- ---- the view of the structs

abbrev pub table_view : {E P : Type 0} → ParsingTable E P → Table
table_view t = table_in t.little t.class t.«data».now

-- the records that an iterator has left to yield
unfoldable pub items_left : {E P : Type 0} → RecordType P → ParsingIterator E P → List P
items_left reads s =
    items_from (reads.record_at s.little s.class) (reads.size s.class) (length s.«data».now - s.offset) s.«data».now
    s.offset
