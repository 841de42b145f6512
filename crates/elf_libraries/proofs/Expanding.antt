-- The first of the bytes whose sequences are replaced.
use Rattle.std.proofs.Common.{◌≡◌, ℕ, zero, suc, ◌+◌, ◌-◌, ◌<◌, nat_lt, true, false, ◌==◌, List, [], ◌∷◌, ◌++◌, length, refl, sym, ap, ◌∙◌, arith, get_or, drop}
use Rattle.std.proofs.lemmas.Bool.Decides.{nat_tests}
use Rattle.std.specs.Prelude.{cond, take}
use Rattle.std.specs.List.{list_any}
use Rattle.elf_libraries.specs.Search.{Places, Tokens, candidates_of, expansion_after, path_max, paths_of, sequence}

module _ (tokens : Tokens) where
  pub skips_first : (bytes : List ℕ) (skip : ℕ) → 0 < length bytes → 0 < skip → expansion_after tokens skip bytes ≡ expansion_after tokens (skip - 1) (drop 1 bytes)
  skips_first [] skip some left = absurd (omega (arith, some))
  skips_first (b ∷ bytes) zero some left = absurd (omega (arith, left))
  skips_first (b ∷ bytes) (suc n) some left = let same : suc n - 1 ≡ n = omega arith in ap (λ k. expansion_after tokens k bytes) (sym same)

  pub keeps_first : (bytes : List ℕ) (d : ℕ) → 0 < length bytes → ((sequence tokens bytes).length == 0) ≡ true → expansion_after tokens 0 bytes ≡ get_or bytes 0 d ∷ expansion_after tokens 0 (drop 1 bytes)
  keeps_first [] d some none = absurd (omega (arith, some))
  keeps_first (b ∷ bytes) d some none = ap (λ t. cond t (b ∷ expansion_after tokens 0 bytes) ((sequence tokens (b ∷ bytes)).value ++ expansion_after tokens ((sequence tokens (b ∷ bytes)).length - 1) bytes)) none

  pub replaces_first : (bytes : List ℕ) → 0 < length bytes → ((sequence tokens bytes).length == 0) ≡ false → expansion_after tokens 0 bytes ≡ (sequence tokens bytes).value ++ expansion_after tokens ((sequence tokens bytes).length - 1) (drop 1 bytes)
  replaces_first [] some none = absurd (omega (arith, some))
  replaces_first (b ∷ bytes) some none = ap (λ t. cond t (b ∷ expansion_after tokens 0 bytes) ((sequence tokens (b ∷ bytes)).value ++ expansion_after tokens ((sequence tokens (b ∷ bytes)).length - 1) bytes)) none

dropped : {X : Type 0} (xs : List X) (n : ℕ) → drop 1 (drop n xs) ≡ drop (suc n) xs
dropped [] zero = refl
dropped [] (suc n) = refl
dropped (x ∷ xs) zero = refl
dropped (x ∷ xs) (suc n) = dropped xs n

pub drop_next : {X : Type 0} (xs : List X) (n : ℕ) → drop 1 (drop n xs) ≡ drop (n + 1) xs
drop_next xs n = let next : suc n ≡ n + 1 = omega arith in dropped xs n ∙ ap (λ k. drop k xs) next

all_taken : {X : Type 0} (xs : List X) → take (length xs) xs ≡ xs
all_taken [] = refl
all_taken (x ∷ xs) = ap (λ l. x ∷ l) (all_taken xs)

pub rest_taken : {X : Type 0} (xs : List X) (n : ℕ) → take (length xs - n) (drop n xs) ≡ drop n xs
rest_taken xs zero = let whole : length xs - 0 ≡ length xs = omega arith in ap (λ k. take k xs) whole ∙ all_taken xs
rest_taken {X} [] (suc n) = let none : 0 - suc n ≡ 0 = omega arith in ap (λ k. take {A = X} k []) none
rest_taken (x ∷ xs) (suc n) = let fewer : suc (length xs) - suc n ≡ length xs - n = omega arith in ap (λ k. take k (drop n xs)) fewer ∙ rest_taken xs n

-- the paths of a name without a slash, which some path can have
pub without_slash : (name other : List ℕ) (a b : Places) → list_any (λ k. k == 47) name ≡ false → length name < path_max → name ≡ other → a ≡ b → paths_of name a ≡ candidates_of other b
without_slash name other a b none less same all =
    let short : nat_lt (length name) path_max ≡ true = grind (arith, nat_tests, less) in
    let rest = cond (nat_lt (length other) path_max) (paths_of other b) [] in
    ap (λ n. paths_of n a) same ∙ ap (paths_of other) all
    ∙ sym (ap (λ t. cond t (other ∷ []) rest) (ap (list_any (λ k. k == 47)) (sym same) ∙ none) ∙ ap (λ t. cond t (paths_of other b) []) (ap (λ n. nat_lt (length n) path_max) (sym same) ∙ short))
