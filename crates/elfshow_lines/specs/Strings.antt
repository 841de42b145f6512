-- The lines of the strings of a table.
use Rattle.std.specs.Prelude.{ℕ, zero, suc, ◌+◌, List, [], ◌∷◌, length, codes, Result, Ok, Err}
use Rattle.std.specs.Fmt.{decimal}
use Rattle.elf_records.specs.StringTable.{string_at}
use Rattle.elf_records.specs.declared.parse.ParseError.{ParseError}
use Rattle.elfshow_lines.specs.Pieces.{◌⧺◌, newline, escaped_text}

-- a string at o, if it can be read, and those after it
abbrev pub before_strings : ℕ → Result (List ℕ) ParseError → List (ℕ × List ℕ) → List (ℕ × List ℕ)
before_strings o (Ok string) others = (o, string) ∷ others
before_strings o (Err e) others = []

-- where the string after this one begins: after the 0 byte that ends it
abbrev pub behind_string : ℕ → Result (List ℕ) ParseError → ℕ
behind_string o (Ok string) = o + length string + 1
behind_string o (Err e) = o

-- the strings starting at o, each with its offset, up to the first that cannot be read, and no more than the limit
abbrev pub strings_from : ℕ → List ℕ → ℕ → List (ℕ × List ℕ)
strings_from zero bytes o = []
strings_from (suc limit) bytes o =
    before_strings o (string_at bytes o) (strings_from limit bytes (behind_string o (string_at bytes o)))

-- the strings of a table; since a 0 byte ends each, there are no more strings than bytes
abbrev pub strings_of : List ℕ → List (ℕ × List ℕ)
strings_of bytes = strings_from (length bytes) bytes 0

-- the line of a string has its offset in place of its number
abbrev pub string_line : ℕ → ℕ × List ℕ → List ℕ
string_line k (o, string) = codes "string " ⧺ decimal o ⧺ codes " name=" ⧺ escaped_text string ⧺ newline
