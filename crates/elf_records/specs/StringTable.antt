-- Strings that end in a 0 byte (gABI, chapter "String Table").
use Rattle.std.specs.Prelude.{◌≡◌, ℕ, if◌then◌else◌, ◌==◌, nat_lt, List, length, take, drop, position, ok_or, Result}
use Rattle.std.specs.Prelude.{Ok, Err, MatchResult, IsUtf8, Option, Some, None}
use Rattle.std.specs.Option.{option_map}
use Rattle.std.specs.Str.{valid_up_to, error_len, is_utf8}
use Rattle.std.specs.Str.Lossy.{utf8_valid_len, utf8_error_len}
use Rattle.elf_records.specs.declared.parse.ParseError.{ParseError}
use Rattle.elf_records.specs.declared.parse.ParseError.TheVariants.{BadOffset, StringTableMissingNul, Utf8Error}
use Rattle.std.specs.declared.str.Utf8Error.{Utf8Error as Fault}
use Rattle.elf_records.specs.declared.string_table.StringTable.{StringTable}
use denote.Ref.{Bor}

-- the bytes of a table of strings
abbrev pub strings_view : StringTable → List ℕ
strings_view table = table.«data».now

-- the bytes from o up to the first 0, or the error
unfoldable pub string_at : List ℕ → ℕ → Result (List ℕ) ParseError
string_at bytes o =
    if length bytes == 0 then Err (BadOffset o)
    else if nat_lt (length bytes) o then Err (BadOffset o)
    else ok_or (option_map (λ n. take n (drop o bytes)) (position (λ byte. byte == 0) (drop o bytes)))
    (StringTableMissingNul o)

-- the bytes, if they can be read and are text
abbrev pub text_of : Result (List ℕ) ParseError → Option (List ℕ)
text_of (Ok bytes) = if is_utf8 bytes then Some bytes else None
text_of (Err e) = None

-- where the bytes stop being UTF-8, and how many bytes are invalid there, if they are not just cut short
abbrev pub IsFirstTextFault : List ℕ → Fault → Type 0
IsFirstTextFault bytes fault =
    (valid_up_to fault ≡ utf8_valid_len bytes) × (error_len fault ≡ utf8_error_len (drop (valid_up_to fault) bytes))

-- these bytes as text, or the error
abbrev pub GivesText : Result (List ℕ) ParseError → Result (Bor (List ℕ)) ParseError → Type 0
GivesText (Ok bytes) result =
    MatchResult result (λ text. (text.now ≡ bytes) × IsUtf8 bytes)
    (λ e. (IsUtf8 bytes → ⊥) × ((fault : Fault) × (e ≡ Utf8Error fault) × IsFirstTextFault bytes fault))
GivesText (Err e) result = result ≡ Err e
