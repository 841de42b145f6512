-- Bytes and numbers at an offset, and the errors of reads. An order is a test: true is little-endian.
use Rattle.std.specs.Prelude.{ℕ, ◌+◌, ◌-◌, ◌*◌, ◌^◌, nat_lt, nat_le, Bool, if◌then◌else◌, ℤ, pos, ◌-ℤ◌}
use Rattle.std.specs.Prelude.{List, [], ◌∷◌, length, take, drop, Result, Ok, Err}
use Rattle.elf_records.specs.declared.parse.ParseError.{ParseError}
use Rattle.elf_records.specs.declared.parse.ParseError.TheVariants.{IntegerOverflow, SliceReadError}

-- the sum of byte i times 256 ^ i
abbrev pub little_number : List ℕ → ℕ
little_number [] = 0
little_number (byte ∷ bytes) = byte + 256 * little_number bytes

-- the sum of byte i of w times 256 ^ (w - 1 - i)
abbrev pub big_number : List ℕ → ℕ
big_number [] = 0
big_number (byte ∷ bytes) = byte * 256 ^ length bytes + big_number bytes

-- the number that the bytes spell: the lowest byte comes first in little order, last in big order
abbrev pub number : Bool → List ℕ → ℕ
number little bytes = if little then little_number bytes else big_number bytes

-- the signed number that has this number of `width` bytes as its two's complement
abbrev pub signed_number : ℕ → ℕ → ℤ
signed_number width n = if nat_lt n (2 ^ (8 * width - 1)) then pos n else pos n -ℤ pos (2 ^ (8 * width))

-- the bytes from o to o + width, or the error
unfoldable pub bytes_at : ℕ → List ℕ → ℕ → Result (List ℕ) ParseError
bytes_at width bytes o =
    if nat_le (2 ^ 64) (o + width) then Err IntegerOverflow
    else if nat_lt (length bytes) (o + width) then Err (SliceReadError (o, o + width))
    else Ok (take width (drop o bytes))

-- f of the value of an Ok
abbrev pub ok_map : {A B E : Type 0} → (A → B) → Result A E → Result B E
ok_map f (Ok x) = Ok (f x)
ok_map f (Err e) = Err e

-- the number in these bytes, or the error
unfoldable pub number_at : Bool → ℕ → List ℕ → ℕ → Result ℕ ParseError
number_at little width bytes o = ok_map (number little) (bytes_at width bytes o)

-- an offset after a read of `width` bytes: after them, or unchanged
abbrev pub moved_by : {A E : Type 0} → ℕ → Result A E → ℕ → ℕ
moved_by width (Ok x) o = o + width
moved_by width (Err e) o = o

-- a signed number in these bytes
unfoldable pub signed_number_at : Bool → ℕ → List ℕ → ℕ → Result ℤ ParseError
signed_number_at little width bytes o = ok_map (signed_number width) (number_at little width bytes o)
