-- Records as objects of JSON, one a line (RFC 8259).
use Rattle.std.specs.Prelude.{ℕ, ◌/◌, ◌%◌, ◌==◌, ◌&&◌, ◌||◌, not, Bool, true, false, if◌then◌else◌}
use Rattle.std.specs.Prelude.{List, ◌∷◌, [], Some, codes}
use Rattle.std.specs.Char.Escape.{encode_utf16}
use Rattle.std.specs.Fmt.{decimal, signed_decimal}
use Rattle.std.specs.List.{flat_map}
use Rattle.std.specs.Str.{chars, encode_utf8_all, is_utf8}
use Rattle.elf_names.specs.Flags.{Flag, is_set}
use Rattle.elfshow_lines.specs.Pieces.{◌⧺◌, hex_of}
use Rattle.nugwier_layouts.specs.Escape.{is_shown}
use Rattle.nugwier_layouts.specs.Members.{Content, Members, bytes, character, flag, flags, number, signed, text, word}

-- ---- strings (section 7)

-- written as it is: a character that is shown, and not the quotation mark
unfoldable pub stands_for_itself : ℕ → Bool
stands_for_itself c = is_shown c && not (c == 0x22)

-- `\u` and four digits
abbrev pub unit_escape : ℕ → List ℕ
unit_escape u = codes "\\u" ⧺ hex_of (u / 256 % 256 ∷ u % 256 ∷ [])

-- of the quotation mark and the backslash a backslash before it, else each of its units in UTF-16
unfoldable pub escape : ℕ → List ℕ
escape c = if c == 0x22 || c == 0x5c then 0x5c ∷ c ∷ [] else flat_map unit_escape (encode_utf16 c)

unfoldable pub spelled : ℕ → List ℕ
spelled c = if stands_for_itself c then c ∷ [] else escape c

-- of a text in UTF-8
unfoldable pub json_string : List ℕ → List ℕ
json_string t = codes "\"" ⧺ encode_utf8_all (flat_map spelled (chars t)) ⧺ codes "\""

-- ---- members of an object (section 4)

-- What follows a key, whose own quotation mark is still open. The key of bytes ends with _hex.

abbrev pub string_value : List ℕ → List ℕ
string_value t = codes "\":" ⧺ json_string t

abbrev pub character_value : ℕ → List ℕ
character_value c = codes "\":\"" ⧺ encode_utf8_all (spelled c) ⧺ codes "\""

-- two digits for each byte
abbrev pub bytes_value : List ℕ → List ℕ
bytes_value b = codes "_hex\":\"" ⧺ hex_of b ⧺ codes "\""

-- the name of a flag that is set: the first one, or one after others
abbrev pub flag_name : Bool → ℕ → Flag → List ℕ
flag_name is_first n f = if is_set n f then (if is_first then [] else codes ",") ⧺ json_string f.2 else []

abbrev pub flag_names : Bool → ℕ → List Flag → List ℕ
flag_names is_first n [] = []
flag_names is_first n (f ∷ fs) = flag_name is_first n f ⧺ flag_names (is_first && not (is_set n f)) n fs

-- an array of the names of the flags that are set (section 5)
abbrev pub flags_value : List Flag → ℕ → List ℕ
flags_value table n = codes "\":[" ⧺ flag_names true n table ⧺ codes "]"

-- a text in UTF-8 as a string, any other as its bytes
abbrev pub text_value : List ℕ → List ℕ
text_value t = if is_utf8 t then string_value t else bytes_value t

abbrev pub after_key : Content → List ℕ
after_key (flag true) = codes "\":true"
after_key (flag false) = codes "\":false"
after_key (number n) = codes "\":" ⧺ decimal n
after_key (signed n) = codes "\":" ⧺ signed_decimal n
after_key (word (Some w)) = string_value w
after_key (character (Some c)) = character_value c
after_key (text (Some t)) = text_value t
after_key (bytes b) = bytes_value b
after_key (flags table n) = flags_value table n
after_key _ = codes "\":null"

-- a member after others: its key, which needs no escapes, and its value
abbrev pub member_text : List ℕ × Content → List ℕ
member_text m = codes ",\"" ⧺ m.0 ⧺ after_key m.1

-- ---- records

-- an object begins with the path of the file and the kind of the record
abbrev pub front : List ℕ → List ℕ → List ℕ
front path kind = codes "{\"file\":" ⧺ json_string path ⧺ codes ",\"record\":" ⧺ json_string kind

-- the line of an object with these further members
abbrev pub object : List ℕ → List ℕ → Members → List ℕ
object path kind members = front path kind ⧺ flat_map member_text members ⧺ codes "}\n"
