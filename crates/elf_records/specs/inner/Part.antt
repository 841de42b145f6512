-- Part of a record's field table, read by a function of its own: so long records are read. Only contracts of such
-- private functions speak of it.
use Rattle.std.specs.Prelude.{ℕ, zero, suc, ◌+◌, ◌*◌, Bool, List, [], ◌∷◌, take, drop, Result}
use Rattle.elf_records.specs.declared.file.Class.{Class}
use Rattle.elf_records.specs.declared.file.Class.TheVariants.{ELF32}
use Rattle.elf_records.specs.declared.parse.ParseError.{ParseError}
use Rattle.elf_records.specs.Class.{address_size}
use Rattle.elf_records.specs.File.{tail_fields}
use Rattle.elf_records.specs.Record.{Field, field}
use Rattle.elf_records.specs.inner.Running.{numbers_from, offset_from}

-- the numbers of these fields; the first lies at o
unfoldable pub part_at : Bool → List Field → List ℕ → ℕ → Result (List ℕ) ParseError
part_at little fs bytes o = numbers_from little fs bytes o

-- where their read leaves an offset
unfoldable pub part_end : Bool → List Field → List ℕ → ℕ → ℕ
part_end little fs bytes o = offset_from little fs bytes o

-- fields of the size of an address; the first has this place
abbrev pub class_fields : Class → ℕ → ℕ → List Field
class_fields class place zero = []
class_fields class place (suc count) =
    field place (address_size class) ∷ class_fields class (place + address_size class) count

-- the tail of the file header: e_type to version, the same in both classes, then e_entry to e_shoff, then all others
abbrev pub kind_fields : List Field
kind_fields = take 3 (tail_fields ELF32)

abbrev pub place_fields : Class → List Field
place_fields class = class_fields class 8 3

abbrev pub count_fields : Class → List Field
count_fields class = drop 6 (tail_fields class)

-- a section header: sh_name to sh_offset, then sh_size to sh_entsize
abbrev pub front_fields : Class → List Field
front_fields class = field 0 4 ∷ field 4 4 ∷ class_fields class 8 3

abbrev pub back_fields : Class → List Field
back_fields class =
    field (8 + 3 * address_size class) (address_size class) ∷
    field (8 + 4 * address_size class) 4 ∷
    field (12 + 4 * address_size class) 4 ∷
    class_fields class (16 + 4 * address_size class) 2

-- numbers as a list
abbrev pub three : ℕ × ℕ × ℕ → List ℕ
three n = n.0 ∷ n.1 ∷ n.2 ∷ []

abbrev pub five : ℕ × ℕ × ℕ × ℕ × ℕ → List ℕ
five n = n.0 ∷ n.1 ∷ n.2 ∷ n.3 ∷ n.4 ∷ []

abbrev pub seven : ℕ × ℕ × ℕ × ℕ × ℕ × ℕ × ℕ → List ℕ
seven n = n.0 ∷ n.1 ∷ n.2 ∷ n.3 ∷ n.4 ∷ n.5 ∷ n.6 ∷ []
