-- The fields of an archive's headers: text with spaces after it (System V ABI, "Archive File"; the manual page ar(5) of
-- BSD).
use Rattle.std.specs.Prelude.{ℕ, ◌+◌, ◌-◌, ◌*◌, ◌^◌, ◌==◌, ◌&&◌, nat_le, nat_lt, Bool, if◌then◌else◌}
use Rattle.std.specs.Prelude.{List, [], ◌∷◌, codes, drop, length, position, take, Option, Some, None}
use Rattle.std.specs.List.{ends_with, suffix_len}
use Rattle.std.specs.Option.{option_map}

-- the bytes without those at their end that fill the field
abbrev pub trimmed : ℕ → List ℕ → List ℕ
trimmed fill field = take (length field - suffix_len (λ b. b == fill) field) field

-- ---- numbers

abbrev pub is_digit : ℕ → Bool
is_digit b = nat_le 48 b && nat_le b 57

-- a number with one more digit after it, if this is a digit and the number stays below 2^64
abbrev pub with_digit : Option ℕ → ℕ → Option ℕ
with_digit None digit = None
with_digit (Some n) digit =
    if is_digit digit && nat_lt (10 * n + (digit - 48)) (2 ^ 64) then Some (10 * n + (digit - 48)) else None

abbrev pub with_digits : Option ℕ → List ℕ → Option ℕ
with_digits number [] = number
with_digits number (digit ∷ digits) = with_digits (with_digit number digit) digits

-- the number that decimal digits spell, one at least
abbrev pub decimal_in : List ℕ → Option ℕ
decimal_in [] = None
decimal_in (digit ∷ digits) = with_digits (Some 0) (digit ∷ digits)

-- ---- names

-- System V ends a name with a slash
abbrev pub without_slash : List ℕ → List ℕ
without_slash name = if ends_with ◌==◌ name (codes "/") then take (length name - 1) name else name

-- the place of a long name, after the slash that begins the field. GNU ar leaves a slash at the end of the field if the
-- name has fifteen bytes
abbrev pub place_in : List ℕ → Option ℕ
place_in field = decimal_in (trimmed 32 (without_slash (drop 1 field)))

abbrev pub is_newline : ℕ → Bool
is_newline b = b == 10

-- the name that begins at a place of the member of long names: up to the end of the line, and without its slash
abbrev pub long_name : List ℕ → ℕ → Option (List ℕ)
long_name names place =
    option_map (λ end. without_slash (take end (drop place names))) (position is_newline (drop place names))
