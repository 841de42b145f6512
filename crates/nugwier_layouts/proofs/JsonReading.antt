-- A string of JSON says the text that it was written of.
use Rattle.std.proofs.Common.{◌≡◌, ℕ, zero, suc, ◌+◌, ◌-◌, ◌*◌, ◌/◌, ◌%◌, ◌<◌, ◌≤◌, ◌==◌, Bool, true, false, ◌||◌, List, [], ◌∷◌, ◌++◌, map, get_or, Option, Some, None, refl, sym, ap, ◌∙◌, subst, arith, append_assoc, ⊎_elim, ◌⊎◌, inl, inr}
use Rattle.std.proofs.lemmas.Bool.{and_from, and_parts, eqb-true, le-leb, le-ltb, lt-leb, lt-ltb, ltb-false, ltb-true, or_cases}
use Rattle.std.proofs.lemmas.Bool.Decides.{nat_tests}
use Rattle.std.proofs.Math.Utf8.{scalar_cases}
use Rattle.std.proofs.str.Utf16.{IsPair}
use Rattle.std.proofs.lemmas.Str.{chars-encodes, digit_value-digit_char, encode_ascii, encodes-append, encodes-chars, scalars-chars, utf16_chars-nil, utf16_chars_lone, utf16_chars_pair}
use Rattle.std.specs.Prelude.{nat_lt, unwrap_or}
use Rattle.std.specs.Char.{digit_value, encode_utf8}
use Rattle.std.specs.Char.Escape.{encode_utf16}
use Rattle.std.specs.Char.Utf16.{lone_unit_char, surrogate_pair_char, utf16_lossy_chars}
use Rattle.std.specs.Fmt.{digit_glyph}
use Rattle.std.specs.List.{flat_map}
use Rattle.std.specs.Option.{option_map}
use Rattle.std.specs.Str.{IsUtf8, all_scalars, chars, encode_utf8_all}
use Rattle.elfshow_lines.specs.Pieces.{hex_pair}
use Rattle.nugwier_layouts.specs.Json.{escape, json_string, spelled, stands_for_itself, unit_escape}
use Rattle.nugwier_layouts.proofs.JsonStrings.{digit_small, digits_of}
use Rattle.nugwier_layouts.specs.JsonReading.{at_character, at_digit, before, read, read_string, text_of_units}
use lib.Utf8.{low_scalar, scalar}

-- ---- four digits

digit_back : (d : ℕ) → d < 16 → digit_value (digit_glyph false d) ≡ d
digit_back d l = digit_value-digit_char d (omega arith)

digit_more : (more n d : ℕ) (cs : List ℕ) → d < 16 → read (at_digit (suc more) n) (digit_glyph false d ∷ cs) ≡ read (at_digit more (n * 16 + d)) cs
digit_more more n d cs l = rw (digit_back d l, lt-ltb d 16 l) refl

digit_last : (n d : ℕ) (cs : List ℕ) → d < 16 → read (at_digit zero n) (digit_glyph false d ∷ cs) ≡ option_map (λ (xs : List ℕ). (n * 16 + d) ∷ xs) (read at_character cs)
digit_last n d cs l = rw (digit_back d l, lt-ltb d 16 l) refl

abbrev with_unit : ℕ → List ℕ → Option (List ℕ)
with_unit u cs = option_map (λ (us : List ℕ). u ∷ us) (read at_character cs)

unit_read : (u : ℕ) (cs : List ℕ) → u < 65536 → read at_character (unit_escape u ++ cs) ≡ with_unit u cs
unit_read u cs l =
    let a = u / 256 % 256 / 16 in
    let b = u / 256 % 256 % 16 in
    let d = u % 256 / 16 in
    let e = u % 256 % 16 in
    let whole : (((0 * 16 + a) * 16 + b) * 16 + d) * 16 + e ≡ u = omega arith in
    digit_more 2 0 a (digit_glyph false b ∷ digit_glyph false d ∷ digit_glyph false e ∷ cs) (omega arith)
    ∙ digit_more 1 (0 * 16 + a) b (digit_glyph false d ∷ digit_glyph false e ∷ cs) (omega arith)
    ∙ digit_more 0 ((0 * 16 + a) * 16 + b) d (digit_glyph false e ∷ cs) (omega arith)
    ∙ digit_last (((0 * 16 + a) * 16 + b) * 16 + d) e cs (omega arith)
    ∙ ap (λ (n : ℕ). with_unit n cs) whole

-- ---- one character

abbrev with_first : ℕ → List ℕ → Option (List ℕ)
with_first c cs = option_map (λ (us : List ℕ). encode_utf16 c ++ us) (read at_character cs)

two_mapped : (u v : ℕ) (r : Option (List ℕ)) → option_map (λ (us : List ℕ). u ∷ us) (option_map (λ (us : List ℕ). v ∷ us) r) ≡ option_map (λ (us : List ℕ). u ∷ v ∷ us) r
two_mapped u v None = refl
two_mapped u v (Some us) = refl

scalar_small : (c : ℕ) → scalar c ≡ true → c < 0x110000
scalar_small c s = ⊎_elim (λ low. omega (arith, low)) (λ high. high.1) (scalar_cases c s)

-- the units of a character, each by its escape
units_read : (b : Bool) (c : ℕ) (cs : List ℕ) → scalar c ≡ true → nat_lt c 0x10000 ≡ b → read at_character (flat_map unit_escape (encode_utf16 c) ++ cs) ≡ with_first c cs
units_read true c cs s small =
    rw small (ap (λ (t : List ℕ). read at_character t) (append_assoc (unit_escape c) [] cs) ∙ unit_read c cs (ltb-true c 0x10000 small))
units_read false c cs s large =
    let u = 0xD800 + (c - 0x10000) / 0x400 in
    let v = 0xDC00 + (c - 0x10000) % 0x400 in
    let bound = scalar_small c s in
    let from = ltb-false c 0x10000 large in
    rw large (ap (λ (t : List ℕ). read at_character t) (append_assoc (unit_escape u) (unit_escape v ++ []) cs)
    ∙ unit_read u ((unit_escape v ++ []) ++ cs) (omega (arith, bound, from))
    ∙ ap (λ (t : List ℕ). with_unit u t) (append_assoc (unit_escape v) [] cs)
    ∙ ap (λ (r : Option (List ℕ)). option_map (λ (us : List ℕ). u ∷ us) r) (unit_read v cs (omega arith))
    ∙ two_mapped u v (read at_character cs))

no_quote : (c : ℕ) → stands_for_itself c ≡ true → (c == 0x22) ≡ false
unfolding stands_for_itself
no_quote c is = grind (arith, nat_tests)

no_backslash : (c : ℕ) → stands_for_itself c ≡ true → (c == 0x5c) ≡ false
unfolding stands_for_itself
no_backslash c is = grind (arith, nat_tests)

no_control : (c : ℕ) → stands_for_itself c ≡ true → nat_lt c 0x20 ≡ false
unfolding stands_for_itself
no_control c is = grind (arith, nat_tests)

itself_read : (c : ℕ) (cs : List ℕ) → stands_for_itself c ≡ true → read at_character (c ∷ cs) ≡ with_first c cs
itself_read c cs is = rw (no_quote c is, no_backslash c is, no_control c is) refl

short_read : (c : ℕ) (cs : List ℕ) → (c == 0x22 || c == 0x5c) ≡ true → read at_character (0x5c ∷ c ∷ cs) ≡ with_first c cs
short_read c cs is = ⊎_elim
    (λ h. subst (λ (n : ℕ). read at_character (0x5c ∷ n ∷ cs) ≡ with_first n cs) (sym (eqb-true c 0x22 h)) refl)
    (λ h. subst (λ (n : ℕ). read at_character (0x5c ∷ n ∷ cs) ≡ with_first n cs) (sym (eqb-true c 0x5c h)) refl)
    (or_cases (c == 0x22) (c == 0x5c) is)

escape_read : (b : Bool) (c : ℕ) (cs : List ℕ) → scalar c ≡ true → (c == 0x22 || c == 0x5c) ≡ b → read at_character (escape c ++ cs) ≡ with_first c cs
unfolding escape
escape_read true c cs s is = rw is (short_read c cs is)
escape_read false c cs s is = rw is (units_read (nat_lt c 0x10000) c cs s refl)

spelled_read_by : (b : Bool) (c : ℕ) (cs : List ℕ) → scalar c ≡ true → stands_for_itself c ≡ b → read at_character (spelled c ++ cs) ≡ with_first c cs
unfolding spelled
spelled_read_by true c cs s is = rw is (itself_read c cs is)
spelled_read_by false c cs s is = rw is (escape_read (c == 0x22 || c == 0x5c) c cs s refl)

spelled_read : (c : ℕ) (cs : List ℕ) → scalar c ≡ true → read at_character (spelled c ++ cs) ≡ with_first c cs
spelled_read c cs s = spelled_read_by (stands_for_itself c) c cs s refl

-- ---- all characters

abbrev inner : List ℕ → List ℕ
inner cs = flat_map spelled cs ++ 0x22 ∷ []

inner_read : (cs : List ℕ) → all_scalars cs ≡ true → read at_character (inner cs) ≡ Some (flat_map encode_utf16 cs)
inner_read [] s = refl
inner_read (c ∷ cs) s =
    let parts = and_parts (scalar c) (all_scalars cs) s in
    ap (λ (t : List ℕ). read at_character t) (append_assoc (spelled c) (flat_map spelled cs) (0x22 ∷ []))
    ∙ spelled_read c (inner cs) parts.0
    ∙ ap (λ (r : Option (List ℕ)). option_map (λ (us : List ℕ). encode_utf16 c ++ us) r) (inner_read cs parts.1)

-- ---- the units are those of the characters

no_surrogate : (c : ℕ) → (c < 0xD800) ⊎ ((0xE000 ≤ c) × (c < 0x110000)) → lone_unit_char c ≡ Some c
no_surrogate c (inl low) = rw (lt-leb 0xD800 c low) refl
no_surrogate c (inr high) = rw (le-ltb c 0xE000 high.0, le-leb 0xD800 c (omega (arith, high.0))) refl

no_pair : (c v : ℕ) → (c < 0xD800) ⊎ ((0xE000 ≤ c) × (c < 0x110000)) → IsPair c v → ⊥
no_pair c v (inl low) pair = omega (arith, low, pair.0)
no_pair c v (inr high) pair = omega (arith, high.0, pair.1)

first_back : (b : Bool) (c : ℕ) (us : List ℕ) → scalar c ≡ true → nat_lt c 0x10000 ≡ b → utf16_lossy_chars (encode_utf16 c ++ us) ≡ c ∷ utf16_lossy_chars us
first_back true c us s small =
    let cases = scalar_cases c s in
    rw small (ap (map (λ (o : Option ℕ). unwrap_or o 0xFFFD)) (utf16_chars_lone c us (no_pair c (get_or us 0 0) cases))
    ∙ ap (λ (o : Option ℕ). unwrap_or o 0xFFFD ∷ utf16_lossy_chars us) (no_surrogate c cases))
first_back false c us s large =
    let u = 0xD800 + (c - 0x10000) / 0x400 in
    let v = 0xDC00 + (c - 0x10000) % 0x400 in
    let bound = scalar_small c s in
    let from = ltb-false c 0x10000 large in
    let whole : surrogate_pair_char u v ≡ c = omega (arith, from) in
    rw large (ap (map (λ (o : Option ℕ). unwrap_or o 0xFFFD))
    (utf16_chars_pair u v us (omega arith, omega (arith, bound, from), omega arith, omega arith))
    ∙ ap (λ (n : ℕ). n ∷ utf16_lossy_chars us) whole)

all_back : (cs : List ℕ) → all_scalars cs ≡ true → utf16_lossy_chars (flat_map encode_utf16 cs) ≡ cs
all_back [] s = ap (map (λ (o : Option ℕ). unwrap_or o 0xFFFD)) utf16_chars-nil
all_back (c ∷ cs) s =
    let parts = and_parts (scalar c) (all_scalars cs) s in
    first_back (nat_lt c 0x10000) c (flat_map encode_utf16 cs) parts.0 refl ∙ ap (λ (rest : List ℕ). c ∷ rest) (all_back cs parts.1)

-- ---- the characters are those of a text

both_scalars : (xs ys : List ℕ) → all_scalars xs ≡ true → all_scalars ys ≡ true → all_scalars (xs ++ ys) ≡ true
both_scalars [] ys x y = y
both_scalars (c ∷ xs) ys x y =
    let parts = and_parts (scalar c) (all_scalars xs) x in
    and_from (scalar c) (all_scalars (xs ++ ys)) parts.0 (both_scalars xs ys parts.1 y)

small_one : (c : ℕ) (rest : List ℕ) → c < 128 → all_scalars rest ≡ true → all_scalars (c ∷ rest) ≡ true
small_one c rest l others = and_from (scalar c) (all_scalars rest) (low_scalar c (omega arith)) others

pair_scalars : (b : ℕ) (rest : List ℕ) → b < 256 → all_scalars rest ≡ true → all_scalars (hex_pair b ++ rest) ≡ true
pair_scalars b rest l others =
    small_one (digit_glyph false (b / 16)) (digit_glyph false (b % 16) ∷ rest) (digit_small (b / 16) (omega arith))
    (small_one (digit_glyph false (b % 16)) rest (digit_small (b % 16) (omega arith)) others)

unit_scalars : (u : ℕ) (rest : List ℕ) → all_scalars rest ≡ true → all_scalars (unit_escape u ++ rest) ≡ true
unit_scalars u rest others =
    small_one 0x5c (0x75 ∷ digits_of u ++ rest) (omega arith) (small_one 0x75 (digits_of u ++ rest) (omega arith)
    (pair_scalars (u / 256 % 256) (hex_pair (u % 256) ++ rest) (omega arith) (pair_scalars (u % 256) rest (omega arith) others)))

units_scalars : (us : List ℕ) → all_scalars (flat_map unit_escape us) ≡ true
units_scalars [] = refl
units_scalars (u ∷ us) = unit_scalars u (flat_map unit_escape us) (units_scalars us)

escape_scalars : (b : Bool) (c : ℕ) → scalar c ≡ true → (c == 0x22 || c == 0x5c) ≡ b → all_scalars (escape c) ≡ true
unfolding escape
escape_scalars true c s is = rw is (small_one 0x5c (c ∷ []) (omega arith) (and_from (scalar c) true s refl))
escape_scalars false c s is = rw is (units_scalars (encode_utf16 c))

spelled_scalars : (b : Bool) (c : ℕ) → scalar c ≡ true → stands_for_itself c ≡ b → all_scalars (spelled c) ≡ true
unfolding spelled
spelled_scalars true c s is = rw is (and_from (scalar c) true s refl)
spelled_scalars false c s is = rw is (escape_scalars (c == 0x22 || c == 0x5c) c s refl)

flat_scalars : (cs : List ℕ) → all_scalars cs ≡ true → all_scalars (flat_map spelled cs) ≡ true
flat_scalars [] s = refl
flat_scalars (c ∷ cs) s =
    let parts = and_parts (scalar c) (all_scalars cs) s in
    both_scalars (spelled c) (flat_map spelled cs) (spelled_scalars (stands_for_itself c) c parts.0 refl) (flat_scalars cs parts.1)

inner_scalars : (cs : List ℕ) → all_scalars cs ≡ true → all_scalars (0x22 ∷ inner cs) ≡ true
inner_scalars cs s = small_one 0x22 (inner cs) (omega arith) (both_scalars (flat_map spelled cs) (0x22 ∷ []) (flat_scalars cs s) refl)

quote_bytes : encode_utf8 0x22 ≡ 0x22 ∷ []
quote_bytes = encode_ascii 0x22 (omega arith)

inner_bytes : (cs : List ℕ) → encode_utf8_all (inner cs) ≡ encode_utf8_all (flat_map spelled cs) ++ 0x22 ∷ []
inner_bytes cs =
    encodes-append (flat_map spelled cs) (0x22 ∷ [])
    ∙ ap (λ (q : List ℕ). encode_utf8_all (flat_map spelled cs) ++ (q ++ [])) quote_bytes

string_bytes_of : (text : List ℕ) → json_string text ≡ encode_utf8_all (0x22 ∷ inner (chars text))
unfolding json_string
string_bytes_of text =
    sym (ap (λ (q : List ℕ). q ++ encode_utf8_all (inner (chars text))) quote_bytes
    ∙ ap (λ (t : List ℕ). 0x22 ∷ t) (inner_bytes (chars text)))

pub read_back : (text : List ℕ) → IsUtf8 text → read_string (json_string text) ≡ Some text
read_back text utf8 =
    let cs = chars text in
    let scalars = scalars-chars text utf8 in
    ap (λ (t : List ℕ). option_map text_of_units (read before (chars t))) (string_bytes_of text)
    ∙ ap (λ (t : List ℕ). option_map text_of_units (read before t)) (chars-encodes (0x22 ∷ inner cs) (inner_scalars cs scalars))
    ∙ ap (λ (r : Option (List ℕ)). option_map text_of_units r) (inner_read cs scalars)
    ∙ ap (λ (all : List ℕ). Some (encode_utf8_all all)) (all_back cs scalars)
    ∙ ap Some (encodes-chars text utf8)
