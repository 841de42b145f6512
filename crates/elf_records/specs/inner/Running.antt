-- A record read by an offset that moves from field to field, as the code reads it. A record is defined in Record.
use Rattle.std.specs.Prelude.{ℕ, ◌+◌, Bool, List, [], ◌∷◌, if◌then◌else◌, Result, Ok, Err, is_ok}
use Rattle.elf_records.specs.declared.parse.ParseError.{ParseError}
use Rattle.elf_records.specs.Number.{number_at}
use Rattle.elf_records.specs.Record.{Field, ◌>>=◌, field_value}

-- the numbers of the fields; the first lies at o
abbrev pub numbers_from : Bool → List Field → List ℕ → ℕ → Result (List ℕ) ParseError
numbers_from little [] bytes o = Ok []
numbers_from little (f ∷ fs) bytes o =
    number_at little f.width bytes o >>= λ x. field_value f.version x >>= λ n.
    numbers_from little fs bytes (o + f.width) >>= λ ns. Ok (n ∷ ns)

-- where the read of a field leaves an offset, `next` being where the fields after it leave it
abbrev pub next_offset : ℕ → Field → Result ℕ ParseError → ℕ → ℕ
next_offset o f (Err e) next = o
next_offset o f (Ok x) next = if is_ok (field_value f.version x) then next else o + f.width

-- where the read of the fields leaves an offset
abbrev pub offset_from : Bool → List Field → List ℕ → ℕ → ℕ
offset_from little [] bytes o = o
offset_from little (f ∷ fs) bytes o =
    next_offset o f (number_at little f.width bytes o) (offset_from little fs bytes (o + f.width))

-- how many bytes the fields have together
abbrev pub width_of : List Field → ℕ
width_of [] = 0
width_of (f ∷ fs) = f.width + width_of fs
