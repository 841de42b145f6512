-- Facts of the few numbers below a bound.
use Rattle.std.proofs.Common.{◌≡◌, ◌≢◌, ℕ, zero, suc, ◌<◌, Some, arith}

pub below_one : (P : ℕ → Type 0) → P 0 → (i : ℕ) → i < 1 → P i
below_one P p zero h = p
below_one P p (suc i) h = absurd (omega (arith, h))

pub below_two : (P : ℕ → Type 0) → P 0 → P 1 → (i : ℕ) → i < 2 → P i
below_two P p q zero h = p
below_two P p q (suc i) h = below_one (λ k. P (suc k)) q i (omega (arith, h))

pub below_three : (P : ℕ → Type 0) → P 0 → P 1 → P 2 → (i : ℕ) → i < 3 → P i
below_three P p q r zero h = p
below_three P p q r (suc i) h = below_two (λ k. P (suc k)) q r i (omega (arith, h))

pub below_five : (P : ℕ → Type 0) → P 0 → P 1 → P 2 → P 3 → P 4 → (i : ℕ) → i < 5 → P i
below_five P p q r s t zero h = p
below_five P p q r s t (suc zero) h = q
below_five P p q r s t (suc (suc i)) h = below_three (λ k. P (suc (suc k))) r s t i (omega (arith, h))

-- numbers that are not 0
pub suc_other : (n : ℕ) → suc n ≢ 0
suc_other n e = omega (arith, e)

pub some_other : (n : ℕ) → Some (suc n) ≢ Some 0
some_other n e = let same : suc n ≡ 0 = cc e in absurd (omega (arith, same))
