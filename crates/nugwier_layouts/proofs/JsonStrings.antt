-- The text of a string of JSON, while it is written character by character.
use Rattle.std.proofs.Common.{◌≡◌, ℕ, ◌/◌, ◌%◌, ◌<◌, ◌==◌, Bool, true, false, ◌||◌, List, [], ◌∷◌, ◌++◌, length, Option, Some, None, refl, sym, ap, ◌∙◌, subst, arith}
use Rattle.std.proofs.lemmas.Bool.{ne_eqb}
use Rattle.std.proofs.lemmas.Bool.Decides.{nat_tests}
use Rattle.std.proofs.lemmas.List.{append-nil}
use Rattle.std.proofs.lemmas.Str.{IsUtf8-from_is_utf8, chars-nil, chars_past_char, encode_ascii, encodes-append, is_utf8-from_IsUtf8}
use Rattle.std.specs.Char.{encode_utf8}
use Rattle.std.specs.Char.Escape.{encode_utf16}
use Rattle.std.specs.Fmt.{digit_glyph}
use Rattle.std.specs.List.{flat_map}
use Rattle.std.specs.Str.{IsUtf8, chars, encode_utf8_all, is_utf8}
use Rattle.elfshow_lines.specs.Adding.{Adds}
use Rattle.elfshow_lines.specs.Pieces.{hex_of, hex_pair}
use Rattle.elfshow_lines.proofs.Adding.{Leads, adds_more}
use Rattle.nugwier_layouts.specs.Json.{bytes_value, escape, spelled, stands_for_itself, string_value, text_value, unit_escape}

-- the text of the characters of a string
abbrev pub inner_text : List ℕ → List ℕ
inner_text text = encode_utf8_all (flat_map spelled (chars text))

inner_more : (bs rest : List ℕ) (c : ℕ) → IsUtf8 bs → bs ≡ encode_utf8 c ++ rest → inner_text bs ≡ encode_utf8_all (spelled c) ++ inner_text rest
inner_more bs rest c utf8 is =
    ap (λ (cs : List ℕ). encode_utf8_all (flat_map spelled cs)) (chars_past_char bs rest c utf8 is)
    ∙ encodes-append (spelled c) (flat_map spelled (chars rest))

-- one more character was added
pub character_more : (g0 b0 g1 b1 g2 b2 : Option (List ℕ)) (bs rest whole : List ℕ) (c : ℕ) → IsUtf8 bs → bs ≡ encode_utf8 c ++ rest
    → Leads g0 b0 g1 b1 (inner_text bs) whole → Adds g1 b1 g2 b2 (encode_utf8_all (spelled c)) → Leads g0 b0 g2 b2 (inner_text rest) whole
character_more g0 b0 g1 b1 g2 b2 bs rest whole c utf8 is x y =
    adds_more g0 b0 g1 b1 g2 b2 (encode_utf8_all (spelled c)) (inner_text rest) whole
    (subst (λ (text : List ℕ). Leads g0 b0 g1 b1 text whole) (inner_more bs rest c utf8 is) x) y

-- nothing is left to be added
pub added_all : (g0 b0 g1 b1 : Option (List ℕ)) (whole : List ℕ) → Leads g0 b0 g1 b1 [] whole → Adds g0 b0 g1 b1 whole
added_all g0 b0 g1 None whole x = tt
added_all g0 None g1 (Some s1) whole x = absurd x
added_all None (Some s0) g1 (Some s1) whole x = tt
added_all (Some h0) (Some s0) None (Some s1) whole x = absurd x
added_all (Some h0) (Some s0) (Some h1) (Some s1) whole x = sym (append-nil (h1 ++ s1)) ∙ x

inner_none : inner_text [] ≡ []
inner_none = ap (λ (cs : List ℕ). encode_utf8_all (flat_map spelled cs)) chars-nil

-- all characters were added
pub characters_all : (g0 b0 g1 b1 : Option (List ℕ)) (bs whole : List ℕ) → length bs ≡ 0 → Leads g0 b0 g1 b1 (inner_text bs) whole → Adds g0 b0 g1 b1 whole
characters_all g0 b0 g1 b1 [] whole none x =
    added_all g0 b0 g1 b1 whole (subst (λ (text : List ℕ). Leads g0 b0 g1 b1 text whole) inner_none x)
characters_all g0 b0 g1 b1 (b ∷ bs) whole none x = absurd (omega (arith, none))

-- ---- one character

ascii_one : (c : ℕ) (rest : List ℕ) → c < 128 → encode_utf8_all rest ≡ rest → encode_utf8_all (c ∷ rest) ≡ c ∷ rest
ascii_one c rest small others =
    ap (λ (front : List ℕ). front ++ encode_utf8_all rest) (encode_ascii c small) ∙ ap (λ (back : List ℕ). c ∷ back) others

pub digit_small : (d : ℕ) → d < 16 → digit_glyph false d < 128
digit_small d l = grind (arith, nat_tests)

quoted_small : (c : ℕ) → (c == 0x22 || c == 0x5c) ≡ true → c < 128
quoted_small c is = grind (arith, nat_tests)

short_ascii : (c : ℕ) → (c == 0x22 || c == 0x5c) ≡ true → encode_utf8_all (0x5c ∷ c ∷ []) ≡ 0x5c ∷ c ∷ []
short_ascii c is = ascii_one 0x5c (c ∷ []) (omega arith) (ascii_one c [] (quoted_small c is) refl)

pair_ascii : (b : ℕ) (rest : List ℕ) → b < 256 → encode_utf8_all rest ≡ rest → encode_utf8_all (hex_pair b ++ rest) ≡ hex_pair b ++ rest
pair_ascii b rest l others =
    ascii_one (digit_glyph false (b / 16)) (digit_glyph false (b % 16) ∷ rest) (digit_small (b / 16) (omega arith))
    (ascii_one (digit_glyph false (b % 16)) rest (digit_small (b % 16) (omega arith)) others)

abbrev pub digits_of : ℕ → List ℕ
digits_of c = hex_of (c / 256 % 256 ∷ c % 256 ∷ [])

unit_ascii : (u : ℕ) (rest : List ℕ) → encode_utf8_all rest ≡ rest → encode_utf8_all (unit_escape u ++ rest) ≡ unit_escape u ++ rest
unit_ascii u rest others =
    ascii_one 0x5c (0x75 ∷ digits_of u ++ rest) (omega arith) (ascii_one 0x75 (digits_of u ++ rest) (omega arith)
    (pair_ascii (u / 256 % 256) (hex_pair (u % 256) ++ rest) (omega arith) (pair_ascii (u % 256) rest (omega arith) others)))

units_ascii : (us : List ℕ) → encode_utf8_all (flat_map unit_escape us) ≡ flat_map unit_escape us
units_ascii [] = refl
units_ascii (u ∷ us) = unit_ascii u (flat_map unit_escape us) (units_ascii us)

escape_by : (b : Bool) (c : ℕ) → (c == 0x22 || c == 0x5c) ≡ b → encode_utf8_all (escape c) ≡ escape c
unfolding escape
escape_by true c is = rw is (short_ascii c is)
escape_by false c is = rw is (units_ascii (encode_utf16 c))

-- an escape has characters of ASCII alone
pub escape_ascii : (c : ℕ) → encode_utf8_all (escape c) ≡ escape c
escape_ascii c = escape_by (c == 0x22 || c == 0x5c) c refl

pub escape_other : (c : ℕ) → (c ≡ 0x22 → ⊥) → (c ≡ 0x5c → ⊥) → flat_map unit_escape (encode_utf16 c) ≡ escape c
unfolding escape
escape_other c quote backslash = rw (ne_eqb c 0x22 quote, ne_eqb c 0x5c backslash) refl

pub spelled_itself : (c : ℕ) → stands_for_itself c ≡ true → encode_utf8 c ≡ encode_utf8_all (spelled c)
unfolding spelled
spelled_itself c is = rw is (sym (append-nil (encode_utf8 c)))

pub spelled_escape : (c : ℕ) → stands_for_itself c ≡ false → escape c ≡ encode_utf8_all (spelled c)
unfolding spelled
spelled_escape c is = rw is (sym (escape_ascii c))

-- ---- texts of the file

pub is_text : (bytes : List ℕ) → IsUtf8 bytes → string_value bytes ≡ text_value bytes
is_text bytes utf8 = rw (is_utf8-from_IsUtf8 bytes utf8) refl

pub no_utf8 : (b : Bool) (bytes : List ℕ) → is_utf8 bytes ≡ b → (IsUtf8 bytes → ⊥) → is_utf8 bytes ≡ false
no_utf8 true bytes is other = absurd (other (IsUtf8-from_is_utf8 bytes is))
no_utf8 false bytes is other = is

pub is_no_text : (bytes : List ℕ) → (IsUtf8 bytes → ⊥) → bytes_value bytes ≡ text_value bytes
is_no_text bytes other = rw (no_utf8 (is_utf8 bytes) bytes refl other) refl
