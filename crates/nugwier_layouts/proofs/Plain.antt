-- A text of plain characters is shown as it is.
use Rattle.std.proofs.Common.{◌≡◌, ◌<◌, ◌++◌, ℕ, true, List, [], ◌∷◌, refl, ap, ◌∙◌, arith}
use Rattle.std.proofs.lemmas.Bool.{and_parts}
use Rattle.std.proofs.lemmas.Bool.Decides.{nat_tests}
use Rattle.std.proofs.lemmas.Str.{chars-IsAscii, encode_ascii}
use Rattle.std.proofs.lemmas.Str.Ascii.{IsAscii-cons, IsAscii-nil}
use Rattle.std.specs.Char.{is_ascii}
use Rattle.std.specs.List.{flat_map, list_all}
use Rattle.std.specs.Str.{IsAscii, chars, encode_utf8_all}
use Rattle.nugwier_layouts.specs.Escape.{is_plain, shown_character}

-- a plain character is one of ASCII
below : (b : ℕ) → is_plain b ≡ true → b < 128
below b plain = grind (arith, nat_tests)

is_below : (b : ℕ) → b < 128 → is_ascii b ≡ true
is_below b less = grind (arith, nat_tests)

encoded : (b : ℕ) → b < 128 → encode_utf8_all (b ∷ []) ≡ b ∷ []
encoded b less = let one = encode_ascii b less in search (one)

as_it_is : (b : ℕ) → is_plain b ≡ true → shown_character b ≡ b ∷ []
unfolding shown_character
as_it_is b plain = rw (is_below b (below b plain), plain) (encoded b (below b plain))

all_ascii : (bytes : List ℕ) → list_all is_plain bytes ≡ true → IsAscii bytes
all_ascii [] all = IsAscii-nil
all_ascii (b ∷ bytes) all =
    let parts = and_parts _ _ all in
    IsAscii-cons b bytes (below b parts.0) (all_ascii bytes parts.1)

all_shown : (bytes : List ℕ) → list_all is_plain bytes ≡ true → flat_map shown_character bytes ≡ bytes
all_shown [] all = refl
all_shown (b ∷ bytes) all =
    let parts = and_parts _ _ all in
    ap (λ (text : List ℕ). text ++ flat_map shown_character bytes) (as_it_is b parts.0)
    ∙ ap (λ (rest : List ℕ). b ∷ rest) (all_shown bytes parts.1)

pub plain_text : (bytes : List ℕ) → list_all is_plain bytes ≡ true → flat_map shown_character (chars bytes) ≡ bytes
plain_text bytes all =
    ap (λ (cs : List ℕ). flat_map shown_character cs) (chars-IsAscii bytes (all_ascii bytes all)) ∙ all_shown bytes all
