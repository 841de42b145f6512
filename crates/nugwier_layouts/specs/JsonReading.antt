-- What a string of JSON says (RFC 8259, section 7).
use Rattle.std.specs.Prelude.{ℕ, zero, suc, ◌+◌, ◌*◌, ◌==◌, nat_lt, List, [], ◌∷◌, ◌++◌, Option, Some, None, cond}
use Rattle.std.specs.Char.{digit_value}
use Rattle.std.specs.Char.Escape.{encode_utf16}
use Rattle.std.specs.Char.Utf16.{utf16_lossy_chars}
use Rattle.std.specs.Option.{option_map}
use Rattle.std.specs.Str.{chars, encode_utf8_all}

-- Where a reader of a string is: before it, at one of its characters, after a backslash, or at a digit after `\u`, with
-- how many digits follow this one and the number that those before it make.
pub data Reading : Type 0 where
  before : Reading
  at_character : Reading
  after_backslash : Reading
  at_digit : ℕ → ℕ → Reading

-- a unit of UTF-16, if it is one, and then these
abbrev pub and_then : Option ℕ → Option (List ℕ) → Option (List ℕ)
and_then None rest = None
and_then (Some u) rest = option_map (λ us. u ∷ us) rest

-- the character of an escape of one letter
abbrev pub letter : ℕ → Option ℕ
letter c =
    cond (c == 0x22) (Some 0x22) (cond (c == 0x5c) (Some 0x5c) (cond (c == 0x2f) (Some 0x2f)
    (cond (c == 0x62) (Some 8) (cond (c == 0x66) (Some 12) (cond (c == 0x6e) (Some 10)
    (cond (c == 0x72) (Some 13) (cond (c == 0x74) (Some 9) None)))))))

-- nothing follows the quotation mark at the end
abbrev pub end : List ℕ → Option (List ℕ)
end [] = Some []
end (c ∷ cs) = None

-- the number with one more digit, if it is one
abbrev pub with_digit : ℕ → ℕ → Option ℕ
with_digit n c = cond (nat_lt (digit_value c) 16) (Some (n * 16 + digit_value c)) None

-- The units of UTF-16 that a string says, if it is one: those of its characters, and those that escapes name.
abbrev pub read : Reading → List ℕ → Option (List ℕ)
read place [] = None
read before (c ∷ cs) = cond (c == 0x22) (read at_character cs) None
read at_character (c ∷ cs) =
    cond (c == 0x22) (end cs) (cond (c == 0x5c) (read after_backslash cs)
    (cond (nat_lt c 0x20) None (option_map (λ us. encode_utf16 c ++ us) (read at_character cs))))
read after_backslash (c ∷ cs) =
    cond (c == 0x75) (read (at_digit 3 0) cs) (and_then (letter c) (read at_character cs))
read (at_digit zero n) (c ∷ cs) = and_then (with_digit n c) (read at_character cs)
read (at_digit (suc more) n) (c ∷ cs) =
    cond (nat_lt (digit_value c) 16) (read (at_digit more (n * 16 + digit_value c)) cs) None

-- the text of these units; no text has a half of a surrogate pair, which is read as U+FFFD
abbrev pub text_of_units : List ℕ → List ℕ
text_of_units units = encode_utf8_all (utf16_lossy_chars units)

-- the text that a string in UTF-8 says
abbrev pub read_string : List ℕ → Option (List ℕ)
read_string json = option_map text_of_units (read before (chars json))
