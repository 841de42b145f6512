-- The pieces that lines are made of, as lists of bytes.
use Rattle.std.specs.Prelude.{ℕ, ◌/◌, ◌%◌, ◌==◌, nat_le, List, [], ◌∷◌, ◌++◌, codes}
use Rattle.std.specs.Prelude.{Bool, false, not, ◌&&◌, if◌then◌else◌}
use Rattle.std.specs.List.{flat_map}
use Rattle.std.specs.Fmt.{digits, digit_glyph}

-- text after text, grouped to the right
infixr 55 ◌⧺◌
abbrev pub ◌⧺◌ : List ℕ → List ℕ → List ℕ
a ⧺ b = a ++ b

abbrev pub newline : List ℕ
newline = 10 ∷ []

-- `0x` and lower-case digits without leading zeros
abbrev pub hex : ℕ → List ℕ
hex n = codes "0x" ⧺ digits 16 false n

-- two lower-case digits
abbrev pub hex_pair : ℕ → List ℕ
hex_pair b = digit_glyph false (b / 16) ∷ digit_glyph false (b % 16) ∷ []

-- the visible characters of ASCII (21 to 7e), except for the backslash (5c)
abbrev pub is_plain : ℕ → Bool
is_plain b = nat_le 0x21 b && nat_le b 0x7e && not (b == 0x5c)

-- `\x` and two digits
abbrev pub escape : ℕ → List ℕ
escape b = codes "\\x" ⧺ hex_pair b

abbrev pub escaped_byte : ℕ → List ℕ
escaped_byte b = if is_plain b then b ∷ [] else escape b

-- a plain byte as itself, each other byte as `\x` and two digits
abbrev pub escaped_text : List ℕ → List ℕ
escaped_text bytes = flat_map escaped_byte bytes

-- two lower-case digits for each byte, nothing between them
abbrev pub hex_of : List ℕ → List ℕ
hex_of bytes = flat_map hex_pair bytes
