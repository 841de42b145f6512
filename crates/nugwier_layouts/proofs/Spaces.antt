-- Spaces.
use Rattle.std.proofs.Common.{◌≡◌, ◌+◌, ◌-◌, ◌≤◌, ◌++◌, ◌∙◌, ℕ, ap, arith, codes, replicate, sym}
use Rattle.std.proofs.lemmas.List.{replicate-append-replicate}

-- eight of them, and then the others
pub eight_more : (n : ℕ) → 8 ≤ n → replicate n 32 ≡ codes "        " ++ replicate (n - 8) 32
eight_more n l =
    let same : n ≡ 8 + (n - 8) = omega (arith, l) in
    ap (λ (k : ℕ). replicate k 32) same ∙ sym (replicate-append-replicate 8 (n - 8) 32)
