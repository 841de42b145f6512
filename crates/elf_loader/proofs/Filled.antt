-- A buffer of zeros with the front of a file.
use Rattle.std.proofs.Common.{◌≡◌, ℕ, ◌-◌, List, ◌++◌, length, take, drop, replicate, min, rules, ◌∙◌, ap, arith}
use Rattle.std.proofs.lemmas.List.{drop-replicate, take_min}

zeros_left : (k : ℕ) → 64 - min 64 k ≡ 64 - k
zeros_left k = grind (arith, rules)

-- the bytes that are there, and the zeros after them
pub filled : (front : List ℕ) (n : ℕ) → n ≡ min 64 (length front)
    → take n front ++ drop n (replicate 64 0) ≡ take 64 front ++ replicate (64 - length front) 0
filled front n e =
    ap (λ k. take k front ++ drop k (replicate 64 0)) e
    ∙ ap (λ bytes. bytes ++ drop (min 64 (length front)) (replicate 64 0)) (take_min 64 front)
    ∙ ap (λ zeros. take 64 front ++ zeros) (drop-replicate (min 64 (length front)) 64 0
    ∙ ap (λ k. replicate k 0) (zeros_left (length front)))
