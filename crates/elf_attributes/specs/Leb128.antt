-- Numbers and texts of any length.
use Rattle.std.specs.Prelude.{ℕ, ◌+◌, ◌*◌, ◌%◌, ◌^◌, ◌==◌, nat_lt, if◌then◌else◌, List, [], ◌∷◌, drop, take}
use Rattle.std.specs.Prelude.{Option, Some, None, Result, Ok, Err}
use Rattle.std.specs.Borrow.{Bor}
use Rattle.std.specs.List.{position}
use Rattle.elf_records.specs.Record.{◌>>=◌}
use Rattle.elf_attributes.specs.declared.attributes.AttributeError.{AttributeError}
use Rattle.elf_attributes.specs.declared.attributes.AttributeError.TheVariants.{EndlessNumber, EndlessText, LargeNumber}

-- ---- LEB128 without a sign (DWARF 5, section 7.6)

-- seven more bits below a number, if it has at most 64 bits then
abbrev pub with_group : Option ℕ → ℕ → Option ℕ
with_group None byte = None
with_group (Some n) byte = if nat_lt (n * 128 + byte % 128) (2 ^ 64) then Some (n * 128 + byte % 128) else None

-- the seven low bits of each byte, those of the first one the lowest
abbrev pub leb_number : List ℕ → Option ℕ
leb_number [] = Some 0
leb_number (byte ∷ bytes) = with_group (leb_number bytes) byte

abbrev pub numbered : Option ℕ → List ℕ → Result (ℕ × List ℕ) AttributeError
numbered (Some n) rest = Ok (n, rest)
numbered None rest = Err LargeNumber

-- the number up to the first byte whose high bit is not set, and the bytes after it
abbrev pub first_number : List ℕ → Result (ℕ × List ℕ) AttributeError
first_number bytes = elim (position (λ b. nat_lt b 128) bytes) [
  | Some last ↦ numbered (leb_number (take (last + 1) bytes)) (drop (last + 1) bytes)
  | None ↦ Err EndlessNumber
]

-- ---- a text that a 0 byte ends

-- two parts of bytes
abbrev pub item_view : Bor (List ℕ) × Bor (List ℕ) → List ℕ × List ℕ
item_view parts = (parts.0.now, parts.1.now)

-- the bytes before the first 0 byte, and those after it
abbrev pub first_text : List ℕ → Result (List ℕ × List ℕ) AttributeError
first_text bytes = elim (position (λ b. b == 0) bytes) [
  | Some end ↦ Ok (take end bytes, drop (end + 1) bytes)
  | None ↦ Err EndlessText
]

-- ---- a list of numbers

-- the bytes after numbers up to a number 0; there are at most as many numbers as the first list has bytes
abbrev pub after_list : List ℕ → List ℕ → Result (List ℕ) AttributeError
after_list [] rest = Err EndlessNumber
after_list (byte ∷ bytes) rest =
    first_number rest >>= λ found. if found.0 == 0 then Ok found.1 else after_list bytes found.1
