-- Names of a file as text for a terminal: which characters are shown as they are, and how the others are.
use Rattle.std.specs.Prelude.{ℕ, ◌==◌, ◌&&◌, not, Bool, if◌then◌else◌, List, [], ◌∷◌, codes}
use Rattle.std.specs.Char.{is_ascii}
use Rattle.std.specs.Int.{is_in_range}
use Rattle.std.specs.List.{flat_map, list_any}
use Rattle.std.specs.Str.{chars, encode_utf8_all, is_utf8}
use Rattle.elfshow_lines.specs.Pieces.{◌⧺◌, hex_of}
use Rattle.nugwier_layouts.specs.declared.escape.TheConstants.{HIDDEN}

-- the characters of ASCII that are shown, except for the backslash, which begins an escape
abbrev pub is_plain : ℕ → Bool
is_plain b = is_in_range 0x20 0x7e b && not (b == 0x5c)

-- beyond ASCII: a terminal obeys it, does not show it, or turns the direction of writing
abbrev pub is_hidden : ℕ → Bool
is_hidden c = list_any (λ range. is_in_range range.0 range.1 c) HIDDEN.now

abbrev pub is_shown : ℕ → Bool
is_shown c = if is_ascii c then is_plain c else not (is_hidden c)

-- `\x` and two digits
abbrev pub escaped_byte : ℕ → List ℕ
escaped_byte b = codes "\\x" ⧺ hex_of (b ∷ [])

-- a character that is shown as it is, the bytes of any other one by their digits
unfoldable pub shown_character : ℕ → List ℕ
shown_character c =
    if is_shown c then encode_utf8_all (c ∷ []) else flat_map escaped_byte (encode_utf8_all (c ∷ []))

abbrev pub shown_byte : ℕ → List ℕ
shown_byte b = if is_plain b then b ∷ [] else escaped_byte b

-- UTF-8 by its characters, other bytes each by itself
unfoldable pub shown_bytes : List ℕ → List ℕ
shown_bytes bytes = if is_utf8 bytes then flat_map shown_character (chars bytes) else flat_map shown_byte bytes
