-- Division by a power of two, which takes none.
use Rattle.std.proofs.Common.{◌≡◌, ℕ, zero, suc, ◌-◌, ◌/◌, ◌%◌, ◌^◌, ◌<◌, ◌≤◌, ap, sym, ◌∙◌, arith, inl, inr}
use Rattle.std.specs.Prelude.{bit_and}
use Rattle.std.specs.Int.{IsPowerOfTwo}
use Rattle.std.specs.Int.Bits.{and_self}
use Rattle.std.proofs.Math.Nat.{pow-succ'}
use Rattle.std.proofs.lemmas.Bool.{cases_lt}
use Rattle.std.proofs.lemmas.Nat.{and_mask, and_shr}

-- half of a number that has no bit in common with the one before it has none either
half : (n : ℕ) → bit_and n (n - 1) ≡ 0 → bit_and (n / 2 ^ 1) ((n - 1) / 2 ^ 1) ≡ 0
half n none = sym (and_shr n (n - 1) 1) ∙ ap (λ (k : ℕ). k / 2 ^ 1) none

power : (most n : ℕ) → n ≤ most → 0 < n → bit_and n (n - 1) ≡ 0 → IsPowerOfTwo n
power zero n within some none = absurd (omega arith)
power (suc most) n within some none = elim (cases_lt (n % 2) 1) [
  | inl even ↦
      let behind : (n - 1) / 2 ^ 1 ≡ n / 2 ^ 1 - 1 = omega arith in
      let k = power most (n / 2 ^ 1) (omega arith) (omega arith) (rw behind at (half n none)) in
      let twice = pow-succ' 2 k.0 in
      (suc k.0, omega (arith, twice, k.1))
  | inr odd ↦
      let same : (n - 1) / 2 ^ 1 ≡ n / 2 ^ 1 = omega arith in
      let nothing : n / 2 ^ 1 ≡ 0 = sym (and_self (n / 2 ^ 1)) ∙ (rw same at (half n none)) in
      (0, omega (arith, nothing))
]

pub remainder_by_mask : (b n : ℕ) → 0 < n → bit_and n (n - 1) ≡ 0 → bit_and b (n - 1) ≡ b % n
remainder_by_mask b n some none =
    let k = power n n (omega arith) some none in
    rw k.1 (and_mask b k.0)

pub ruleset masks = (remainder_by_mask)
