-- The number of chains of each length.
use Rattle.std.proofs.Common.{◌≡◌, ℕ, zero, suc, ◌+◌, ◌≤◌, ◌<◌, List, [], ◌∷◌, ◌++◌, length, get_or, set, sum, refl, ap, arith}
use Rattle.std.proofs.lemmas.List.Sums.{get_or-le-sum_by, sum_by-cons}
use Rattle.nugwier_dynamic.specs.Chains.{counted_after, one_more}
use Rattle.nugwier_dynamic.specs.inner.Chains.{symbols_in}

-- a length that no chain has yet is counted as one with no chain
pub counts_longer : (counts : List ℕ) (n : ℕ) → length counts ≤ n → one_more (counts ++ 0 ∷ []) n ≡ one_more counts n
counts_longer [] zero h = refl
counts_longer [] (suc n) h = refl
counts_longer (c ∷ counts) zero h = absurd (grind arith)
counts_longer (c ∷ counts) (suc n) h = ap (λ (cs : List ℕ). c ∷ cs) (counts_longer counts n (grind arith))

pub counts_set : (counts : List ℕ) (n d : ℕ) → n < length counts → set counts n (get_or counts n d + 1) ≡ one_more counts n
counts_set [] n d h = absurd (grind arith)
counts_set (c ∷ counts) zero d h = refl
counts_set (c ∷ counts) (suc n) d h = ap (λ (cs : List ℕ). c ∷ cs) (counts_set counts n d (grind arith))

pub count_within : (counts : List ℕ) (n d : ℕ) → n < length counts → get_or counts n d ≤ sum counts
count_within counts n d h = get_or-le-sum_by (λ x. x) counts n d h

pub chains_more : (counts : List ℕ) (n : ℕ) → sum (one_more counts n) ≡ sum counts + 1
chains_more [] zero = refl
chains_more [] (suc n) =
    let more = sum_by-cons (λ x. x) 0 (one_more [] n) in
    let rest = chains_more [] n in
    omega (arith, more, rest)
chains_more (c ∷ counts) zero =
    let more = sum_by-cons (λ x. x) (c + 1) counts in
    let all = sum_by-cons (λ x. x) c counts in
    omega (arith, more, all)
chains_more (c ∷ counts) (suc n) =
    let more = sum_by-cons (λ x. x) c (one_more counts n) in
    let all = sum_by-cons (λ x. x) c counts in
    let rest = chains_more counts n in
    omega (arith, more, all, rest)

symbols_more : (k : ℕ) (counts : List ℕ) (n : ℕ) → symbols_in k (one_more counts n) ≡ symbols_in k counts + (k + n)
symbols_more k [] zero = omega arith
symbols_more k [] (suc n) = let rest = symbols_more (k + 1) [] n in omega (arith, rest)
symbols_more k (c ∷ counts) zero = grind arith
symbols_more k (c ∷ counts) (suc n) = let rest = symbols_more (k + 1) counts n in omega (arith, rest)

-- all symbols lie in one of the chains
pub symbols_counted : (counts lengths : List ℕ) → symbols_in 0 (counted_after counts lengths) ≡ symbols_in 0 counts + sum lengths
symbols_counted counts [] = omega arith
symbols_counted counts (n ∷ lengths) =
    let rest = symbols_counted (one_more counts n) lengths in
    let more = symbols_more 0 counts n in
    let all = sum_by-cons (λ x. x) n lengths in
    omega (arith, rest, more, all)
