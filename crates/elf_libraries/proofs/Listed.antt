-- A set of paths with one path more.
use Rattle.std.proofs.Common.{◌≡◌, ℕ, Bool, true, false, ◌||◌, cond, List, [], ◌∷◌, ◌++◌, map, refl, sym, ap, ◌∙◌}
use Rattle.std.proofs.lemmas.Cmp.{nat_list_eq_equiv}
use Rattle.std.proofs.lemmas.List.{map-append}
use Rattle.std.proofs.lemmas.List.Folds.{list_any-append}
use Rattle.std.proofs.lemmas.Map.Text.{is_eq-slice_cmp}
use Rattle.std.specs.BTreeSet.{BTreeSet, Updates, contains}
use Rattle.std.specs.Global.{Vec}
use Rattle.std.specs.List.{list_any}
use Rattle.std.specs.Str.{bytes_eq}
use Rattle.std.specs.Vec.{vec_items}
use Rattle.elf_libraries.specs.inner.Paths.{IsSetOf, by_bytes}

one_or : (a b : Bool) → cond a true b ≡ (b || (a || false))
one_or true true = refl
one_or true false = refl
one_or false true = refl
one_or false false = refl

pub set_with : (list grown : List (Vec ℕ)) (old new : BTreeSet (Vec ℕ)) (key path : Vec ℕ) → IsSetOf (map vec_items list) old → Updates by_bytes old new key true
    → vec_items key ≡ vec_items path → grown ≡ list ++ path ∷ [] → IsSetOf (map vec_items grown) new
set_with list grown old new key path of updates same grows = λ other.
    let q = vec_items other in
    let equal = is_eq-slice_cmp (vec_items key) q ∙ nat_list_eq_equiv.symm (vec_items key) q ∙ ap (bytes_eq q) same in
    updates.0 other ∙ ap (λ a. cond a true (contains by_bytes old other)) equal
    ∙ ap (cond (bytes_eq q (vec_items path)) true) (of other)
    ∙ one_or (bytes_eq q (vec_items path)) (list_any (bytes_eq q) (map vec_items list))
    ∙ sym (list_any-append (bytes_eq q) (map vec_items list) (vec_items path ∷ []))
    ∙ ap (list_any (bytes_eq q)) (sym (map-append vec_items list (path ∷ [])) ∙ ap (map vec_items) (sym grows))
