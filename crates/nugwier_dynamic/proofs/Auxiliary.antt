-- Auxiliary entries that are counted one by one are counted in all.
use Rattle.std.proofs.Common.{◌≡◌, ℕ, zero, suc, ◌+◌, ◌-◌, Bool, Option, Some, None, List, [], ◌∷◌, arith, length, rules, ap, sym, ◌∙◌}
use Rattle.std.specs.Prelude.{nat_le, nat_lt, if◌then◌else◌}
use Rattle.std.proofs.lemmas.Bool.Decides.{nat_tests}
use Rattle.std.proofs.lemmas.List.Sums.{sum_by-cons}
use Rattle.nugwier_dynamic.specs.VersionLists.{auxiliary_count}
use Rattle.nugwier_dynamic.specs.inner.VersionLists.{fits, if_left, left_of}

left_of_is : {A : Type 0} (n : ℕ) (xs : List A) → left_of n xs ≡ (if nat_lt n (length xs) then None else Some (n - length xs))
left_of_is n [] = grind (arith, nat_tests)
left_of_is zero (x ∷ xs) = grind (arith, nat_tests)
left_of_is (suc n) (x ∷ xs) = let others = left_of_is n xs in grind (arith, nat_tests)

if_left_is : (n k s : ℕ) (more : ℕ → Bool) → ((left : ℕ) → more left ≡ nat_le s left) → if_left (if nat_lt n k then None else Some (n - k)) more ≡ nat_le (k + s) n
if_left_is n k s more is = grind (arith, nat_tests)

pub fits_is : {V A : Type 0} (n : ℕ) (all : List (V × List A)) → fits n all ≡ nat_le (auxiliary_count all) n
fits_is n [] = grind (arith, nat_tests)
fits_is {V} {A} n (one ∷ more) =
    ap (λ (left : Option ℕ). if_left left (λ k. fits k more)) (left_of_is n one.1)
    ∙ if_left_is n (length one.1) (auxiliary_count more) (λ k. fits k more) (λ left. fits_is left more)
    ∙ ap (λ (total : ℕ). nat_le total n) (sym (sum_by-cons (λ (one : V × List A). length one.1) one more))
