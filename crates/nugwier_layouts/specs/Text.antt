-- Rows for people.
use Rattle.std.specs.Prelude.{ℕ, ◌+◌, ◌-◌, ◌*◌, ◌/◌, ◌%◌, ◌==◌, ℤ, Bool, false, true, if◌then◌else◌, nat_lt, suc, pos}
use Rattle.std.specs.Prelude.{negsuc, bit_and, List, [], ◌∷◌}
use Rattle.std.specs.Prelude.{Option, Some, None, ◌&&◌, codes, drop, length, map, nat_le, replicate, take, zero}
use Rattle.std.specs.Borrow.{Bor}
use Rattle.std.specs.Fmt.{decimal, digits, signed_decimal}
use Rattle.std.specs.Hash.DefaultHasher.{wrapping_add}
use Rattle.std.specs.Int.{div_ceil, to_be_bytes, w32, w64}
use Rattle.std.specs.List.{flat_map, slice_get}
use Rattle.std.specs.Str.{bytes_eq, encode_utf8_all}
use Rattle.elf_abi.specs.Values.{elfdata2lsb, shn_loreserve}
use Rattle.elf_names.specs.Flags.{Flag, is_set}
use Rattle.elf_records.specs.declared.file.Class.{Class}
use Rattle.elf_records.specs.declared.file.Class.TheVariants.{ELF32, ELF64}
use Rattle.elfshow_lines.specs.Pieces.{◌⧺◌, hex, hex_of, newline}
use Rattle.nugwier_layouts.specs.Escape.{shown_bytes}
use Rattle.nugwier_layouts.specs.Members.{Content, Members, bytes, character, flag, flags, nothing, number, signed}
use Rattle.nugwier_layouts.specs.Members.{text}
use Rattle.nugwier_layouts.specs.Members.{word}
use Rattle.nugwier_layouts.specs.declared.text.Look.{Look}
use Rattle.nugwier_layouts.specs.declared.text.Shown.{Shown}
use Rattle.nugwier_layouts.specs.declared.text.Shown.TheVariants as shows
use Rattle.nugwier_layouts.specs.declared.text.Style.{Style}
use Rattle.nugwier_layouts.specs.declared.text.TheConstants.{LETTERS, OTHER_FLAGS}

-- ---- numbers

-- the number that a value is, or 0
abbrev pub number_in : Content → ℕ
number_in (number n) = n
number_in _ = 0

abbrev pub shown_decimal : ℕ → ℕ → List ℕ
shown_decimal width n = replicate (width - length (decimal n)) 32 ⧺ decimal n

abbrev pub all_digits : ℕ → List ℕ
all_digits n = hex_of (to_be_bytes w64 n)

-- 8 digits, or 16 if the number has more than 32 bits
abbrev pub wide : ℕ → List ℕ
wide n = if nat_lt n 0x100000000 then hex_of (to_be_bytes w32 n) else all_digits n

abbrev pub shown_order : ℕ → List ℕ
shown_order n = if n == elfdata2lsb then codes "little endian" else codes "big endian"

abbrev pub section_letter : ℕ → ℕ × ℕ → List ℕ
section_letter n letter = if bit_and n letter.0 == 0 then [] else encode_utf8_all (letter.1 ∷ [])

abbrev pub other_flags : ℕ → List ℕ
other_flags n = if n == 0 then [] else codes "+" ⧺ hex n

abbrev pub letters_of : ℕ → List ℕ
letters_of n =
    if n == 0 then codes "-" else flat_map (section_letter n) LETTERS ⧺ other_flags (bit_and n OTHER_FLAGS)

abbrev pub segment_letter : ℕ → ℕ → List ℕ → List ℕ
segment_letter n mask letter = if bit_and n mask == 0 then codes "-" else letter

abbrev pub segment_flags : ℕ → List ℕ
segment_flags n =
    segment_letter n 4 (codes "R") ⧺ segment_letter n 2 (codes "W") ⧺ segment_letter n 1 (codes "E")
    ⧺ other_flags (n / 8 * 8)

abbrev pub number_text : Shown → ℕ → List ℕ
number_text (shows.Decimal width) n = shown_decimal width n
number_text shows.Digits8 n = wide n
number_text shows.Digits n = digits 16 false n
number_text shows.Order n = shown_order n
number_text shows.SectionFlags n = letters_of n
number_text shows.SegmentFlags n = segment_flags n
number_text shows.Depth n = replicate n 32 ⧺ replicate n 32
number_text _ n = hex n

abbrev pub shown_number : Shown → Content → List ℕ
shown_number form (number n) = number_text form n
shown_number form _ = codes "-"

-- in a file of a class: with the digits of its addresses, or with 16 if the number has more
abbrev pub address_digits : Class → ℕ → List ℕ
address_digits ELF32 n = wide n
address_digits ELF64 n = all_digits n

abbrev pub shown_address : Class → Content → List ℕ
shown_address class (number n) = address_digits class n
shown_address class _ = codes "-"

-- the spaces by which the column of an address is wider
abbrev pub room_of : Class → List ℕ
room_of ELF32 = []
room_of ELF64 = codes "        "

-- as an address in a wide row, else with no more zeros than 8 digits have
abbrev pub shown_short_address : Look → Content → List ℕ
shown_short_address look c = if look.is_wide then shown_address look.class c else shown_number shows.Digits8 c

abbrev pub short_room_of : Look → List ℕ
short_room_of look = if look.is_wide then room_of look.class else []

-- in decimal
abbrev pub shown_signed : Content → List ℕ
shown_signed (signed n) = signed_decimal n
shown_signed _ = codes "-"

-- how many tenths of a percent a number is of another one, rounded to the nearest, and to an even one if two are
abbrev pub tenths : ℕ → ℕ → ℕ
tenths n all =
    let whole = n * 1000 / all in
    let rest = 2 * (n * 1000 % all) in
    if nat_lt rest all then whole else if nat_lt all rest then whole + 1 else whole + whole % 2

unfoldable pub percent : ℕ → List ℕ
percent n = shown_decimal 3 (n / 10) ⧺ codes "." ⧺ decimal (n % 10) ⧺ codes "%"

-- the share of a number in another one; a number above that one, and any share of 0, has none
abbrev pub shown_percent : Content → Content → List ℕ
shown_percent (number n) (number all) = if nat_lt 0 all && nat_le n all then percent (tenths n all) else codes "     -"
shown_percent n all = codes "     -"

-- in hexadecimal, with this before it if it is not negative
abbrev pub signed_hex : List ℕ → ℤ → List ℕ
signed_hex plus (pos n) = plus ⧺ hex n
signed_hex plus (negsuc n) = codes "-" ⧺ hex (suc n)

-- an addend after a symbol: nothing if it is 0
abbrev pub after_symbol : ℤ → List ℕ
after_symbol (pos zero) = []
after_symbol n = signed_hex (codes "+") n

-- symbol 0 is none
abbrev pub shown_addend : Content → Content → List ℕ
shown_addend (signed n) (number zero) = signed_hex [] n
shown_addend (signed n) symbol = after_symbol n
shown_addend addend symbol = []

-- how many rows follow a heading
unfoldable pub known_count : ℕ → List ℕ
known_count n = codes ", " ⧺ decimal n ⧺ codes " in all"

-- the same, if it is known
abbrev pub shown_count : Content → List ℕ
shown_count (number n) = known_count n
shown_count _ = []

-- ---- names

-- the characters of a name, with spaces after them
abbrev pub left_of : ℕ → List ℕ → List ℕ
left_of width name = shown_bytes name ⧺ replicate (width - length name) 32

-- the number of a value that has no name; in a column as at least 8 digits, with spaces after them
unfoldable pub nameless_number : ℕ → ℕ → List ℕ
nameless_number width n = if width == 0 then hex n else codes "0x" ⧺ wide n ⧺ replicate (width - 10) 32

abbrev pub nameless_signed : ℕ → ℤ → List ℕ
nameless_signed width (pos n) = nameless_number width n
nameless_signed width (negsuc n) = signed_decimal (negsuc n)

abbrev pub shown_nameless : ℕ → Content → List ℕ
shown_nameless width (number n) = nameless_number width n
shown_nameless width (signed n) = nameless_signed width n
shown_nameless width _ = codes "-"

-- a name without its first bytes, or the number
abbrev pub shown_name : ℕ → ℕ → Content → Content → List ℕ
shown_name skipped width (word (Some name)) n = left_of width (drop skipped name)
shown_name skipped width _ n = shown_nameless width n

-- the characters of a name, with spaces before them
abbrev pub right_of : ℕ → List ℕ → List ℕ
right_of width name = replicate (width - length name) 32 ⧺ shown_bytes name

-- from SHN_LORESERVE on a number is no section: it is shown in hexadecimal
unfoldable pub index_number : ℕ → ℕ → List ℕ
index_number width n =
    if nat_lt n shn_loreserve then shown_decimal width n else replicate (width - 6) 32 ⧺ hex n

-- of SHN_UNDEF and its like the name without SHN_
abbrev pub shown_index : ℕ → Content → Content → List ℕ
shown_index width (word (Some name)) n = right_of width (drop 4 name)
shown_index width _ n = index_number width (number_in n)

-- a flag that is set, without the first bytes of its name
abbrev pub shown_flag : ℕ → ℕ → Flag → List ℕ
shown_flag count n f = if is_set n f then codes " " ⧺ shown_bytes (drop count f.2) else []

abbrev pub shown_flags : ℕ → Content → List ℕ
shown_flags count (flags table n) = flat_map (shown_flag count n) table
shown_flags count _ = []

-- ---- texts of the file

-- that a value is, if it could be read
abbrev pub text_in : Content → Option (List ℕ)
text_in (text t) = t
text_in _ = None

abbrev pub text_or_mark : Option (List ℕ) → List ℕ
text_or_mark (Some t) = shown_bytes t
text_or_mark None = codes "<unreadable>"

abbrev pub shown_text : Content → List ℕ
shown_text c = text_or_mark (text_in c)

-- the same, with spaces after it
abbrev pub shown_padded : ℕ → Option (List ℕ) → List ℕ
shown_padded width (Some t) = left_of width t
shown_padded width None = left_of width (codes "<unreadable>")

abbrev pub at_signs : Content → List ℕ
at_signs (flag true) = codes "@@"
at_signs _ = codes "@"

abbrev pub shown_version : Content → Content → List ℕ
shown_version (text (Some name)) is_default = at_signs is_default ⧺ shown_bytes name
shown_version _ is_default = []

-- whether two texts are the same, or there is neither
abbrev pub same_text : Option (List ℕ) → Option (List ℕ) → Bool
same_text (Some t) (Some other) = bytes_eq t other
same_text None None = true
same_text _ _ = false

-- the version of a symbol that a reference with its own version is bound to, if it is another one
unfoldable pub shown_target : Content → Content → Content → Content → List ℕ
shown_target version name own is_default =
    if same_text (text_in version) (text_in own) then []
    else codes ": " ⧺ shown_text name ⧺ shown_version version is_default

abbrev pub shown_character : Content → List ℕ
shown_character (character (Some c)) = encode_utf8_all (c ∷ [])
shown_character _ = codes "-"

-- ---- bytes

-- how many bytes are left out
unfoldable pub count_left_out : ℕ → List ℕ
count_left_out n = codes " .. " ⧺ decimal n ⧺ codes " bytes more"

-- if some are
abbrev pub left_out : ℕ → List ℕ
left_out n = if n == 0 then [] else count_left_out n

-- the first of them, at most this number, and how many are left out
abbrev pub front_of : ℕ → List ℕ → List ℕ
front_of most content = hex_of (take most content) ⧺ left_out (length content - most)

-- in a wide row all
abbrev pub shown_front : Bool → ℕ → List ℕ → List ℕ
shown_front is_wide most content = if is_wide then hex_of content else front_of most content

-- ---- bytes, 16 in a line

abbrev pub bytes_in : Content → List ℕ
bytes_in (bytes b) = b
bytes_in _ = []

-- the digits of the first four bytes, filled up with spaces, and a space
abbrev pub dump_group : List ℕ → List ℕ
dump_group part = hex_of (take 4 part) ⧺ replicate (2 * (4 - length part)) 32 ⧺ codes " "

unfoldable pub dump_columns : List ℕ → List ℕ
dump_columns line = dump_group line ⧺ dump_group (drop 4 line) ⧺ dump_group (drop 8 line) ⧺ dump_group (drop 12 line)

-- the character of ASCII that a byte is, or a dot
abbrev pub ascii : ℕ → List ℕ
ascii b = if nat_le 0x20 b && nat_le b 0x7e then b ∷ [] else codes "."

abbrev pub ascii_text : List ℕ → List ℕ
ascii_text line = flat_map ascii line

unfoldable pub dump_address : ℕ → List ℕ
dump_address address = codes "  " ⧺ wide address ⧺ codes "  "

unfoldable pub dump_characters : List ℕ → List ℕ
dump_characters line = codes " " ⧺ ascii_text line ⧺ newline

-- the address of the first byte, the digits, and the characters
abbrev pub dump_line : ℕ → List ℕ → List ℕ
dump_line address line = dump_address address ⧺ dump_columns line ⧺ dump_characters line

-- this number of lines from an offset on; at offset 0 is this address, and after the last address comes address 0
abbrev pub dump_lines : ℕ → ℕ → ℕ → List ℕ → List ℕ
dump_lines address zero offset part = []
dump_lines address (suc count) offset part =
    dump_line (wrapping_add address offset) (take 16 part) ⧺ dump_lines address count (offset + 16) (drop 16 part)

-- bytes; the first one has this address
abbrev pub dump : ℕ → List ℕ → List ℕ
dump address content = dump_lines address (div_ceil (length content) 16) 0 content

-- ---- rows

abbrev pub content_of_one : Option (List ℕ × Content) → Content
content_of_one (Some m) = m.1
content_of_one None = nothing

-- the content of the member at a place; nothing if there is none
abbrev pub content_at : Members → ℕ → Content
content_at members place = content_of_one (slice_get members place)

-- the text before it, the place of the member that it shows, and how
abbrev pub Column : Type 0
Column = List ℕ × ℕ × Shown

-- a column of the program
abbrev pub column_of : Bor (List ℕ) × ℕ × Shown → Column
column_of column = (column.0.now, column.1, column.2)

abbrev pub columns_of : List (Bor (List ℕ) × ℕ × Shown) → List Column
columns_of columns = map column_of columns

-- what the cells depend on in a file of this class
abbrev pub look_of : Style → Class → Look
look_of style class = record { is_wide = style.is_wide; is_colored = style.is_colored; class = class }

-- ---- text in colour

-- cyan text, between the escape sequences that begin it and end a colour (ECMA-48, SGR); 27 is ESC
unfoldable pub colored : List ℕ → List ℕ
colored plain = (27 ∷ codes "[36m") ⧺ plain ⧺ (27 ∷ codes "[39m")

-- columns with texts of the file
abbrev pub is_text : Shown → Bool
is_text shows.Text = true
is_text (shows.Padded width) = true
is_text _ = false

-- ---- rows

module _ (look : Look) where
  abbrev pub shown : Shown → Content → Members → List ℕ
  shown shows.Address c members = shown_address look.class c
  shown shows.Room c members = room_of look.class
  shown shows.ShortAddress c members = shown_short_address look c
  shown shows.ShortRoom c members = short_room_of look
  shown (shows.Addend symbol) c members = shown_addend c (content_at members symbol)
  shown (shows.Name skipped width n) c members = shown_name skipped width c (content_at members n)
  shown (shows.Index width n) c members = shown_index width c (content_at members n)
  shown shows.Text c members = shown_text c
  shown (shows.Padded width) c members = shown_padded width (text_in c)
  shown (shows.Version place) c members = shown_version c (content_at members place)
  shown (shows.Target name own default) c members =
      shown_target c (content_at members name) (content_at members own) (content_at members default)
  shown (shows.Flags count) c members = shown_flags count c
  shown shows.Character c members = shown_character c
  shown shows.Signed c members = shown_signed c
  shown (shows.Percent all) c members = shown_percent c (content_at members all)
  shown shows.Count c members = shown_count c
  shown shows.Pairs c members = hex_of (bytes_in c)
  shown (shows.Front most) c members = shown_front look.is_wide most (bytes_in c)
  shown (shows.Dump address) c members = dump (number_in (content_at members address)) (bytes_in c)
  shown form c members = shown_number form c

  -- the member of a column, which may be in colour
  abbrev pub cell : Members → Column → List ℕ
  cell members column =
      let plain = shown column.2 (content_at members column.1) members in
      if look.is_colored && is_text column.2 then colored plain else plain

  -- after the text before it
  abbrev pub labeled : Members → Column → List ℕ
  labeled members column = column.0 ⧺ cell members column

  -- the text of a row: its columns, and the text after them
  abbrev pub row_text : Members → List Column → List ℕ → List ℕ
  row_text members columns end = flat_map (labeled members) columns ⧺ end

-- ---- bold text

-- between the escape sequences that begin and end it
unfoldable pub framed : List ℕ → List ℕ
framed row = (27 ∷ codes "[1m") ⧺ row ⧺ (27 ∷ codes "[0m")

abbrev pub bold_if : Bool → List ℕ → List ℕ
bold_if is_bold row = if is_bold then framed row else row
