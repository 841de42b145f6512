-- The text of characters, while they are written one by one.
use Rattle.std.proofs.Common.{◌≡◌, ℕ, List, [], ◌∷◌, ◌++◌, length, Option, ap, subst, arith}
use Rattle.std.proofs.lemmas.Str.{chars-nil, chars_past_char}
use Rattle.std.specs.Char.{encode_utf8}
use Rattle.std.specs.List.{flat_map}
use Rattle.std.specs.Str.{IsUtf8, chars}
use Rattle.elfshow_lines.specs.Adding.{Adds}
use Rattle.elfshow_lines.proofs.Adding.{Leads, adds_more}
use Rattle.nugwier_layouts.proofs.JsonStrings.{added_all}

module _ (text_of : ℕ → List ℕ) where
  abbrev pub inner : List ℕ → List ℕ
  inner text = flat_map text_of (chars text)

  inner_more : (bs rest : List ℕ) (c : ℕ) → IsUtf8 bs → bs ≡ encode_utf8 c ++ rest → inner bs ≡ text_of c ++ inner rest
  inner_more bs rest c utf8 is = ap (λ (cs : List ℕ). flat_map text_of cs) (chars_past_char bs rest c utf8 is)

  -- one more character was added
  pub one_more : (g0 b0 g1 b1 g2 b2 : Option (List ℕ)) (bs rest whole : List ℕ) (c : ℕ) → IsUtf8 bs → bs ≡ encode_utf8 c ++ rest
      → Leads g0 b0 g1 b1 (inner bs) whole → Adds g1 b1 g2 b2 (text_of c) → Leads g0 b0 g2 b2 (inner rest) whole
  one_more g0 b0 g1 b1 g2 b2 bs rest whole c utf8 is x y =
      adds_more g0 b0 g1 b1 g2 b2 (text_of c) (inner rest) whole
      (subst (λ (text : List ℕ). Leads g0 b0 g1 b1 text whole) (inner_more bs rest c utf8 is) x) y

  inner_none : inner [] ≡ []
  inner_none = ap (λ (cs : List ℕ). flat_map text_of cs) chars-nil

  -- all characters were added
  pub all_added : (g0 b0 g1 b1 : Option (List ℕ)) (bs whole : List ℕ) → length bs ≡ 0 → Leads g0 b0 g1 b1 (inner bs) whole → Adds g0 b0 g1 b1 whole
  all_added g0 b0 g1 b1 [] whole none x =
      added_all g0 b0 g1 b1 whole (subst (λ (text : List ℕ). Leads g0 b0 g1 b1 text whole) inner_none x)
  all_added g0 b0 g1 b1 (b ∷ bs) whole none x = absurd (omega (arith, none))
