-- The next multiple of an alignment is the least one that is not below.
use Rattle.std.proofs.Common.{◌≡◌, ℕ, suc, ◌+◌, ◌-◌, ◌*◌, ◌/◌, ◌%◌, ◌<◌, ◌≤◌, ap, ◌∙◌, inl, inr, arith}
use Rattle.std.specs.Int.{next_multiple_of}
use Rattle.std.proofs.Math.Nat.{suc-mul, mul-le-mul_right, mul-mod_left, mod-eq_of_lt, mod-lt}
use Rattle.std.proofs.lemmas.Bool.{cases_lt}
use Rattle.elf_parts.specs.Note.{IsLeastMultiple}

at_multiple : (a q x y : ℕ) → x ≡ q * a → y ≡ x → IsLeastMultiple a x y
at_multiple a q x y e same = (ap (λ n. n % a) (same ∙ e) ∙ mul-mod_left q a, omega arith, λ k h. omega arith)

above_multiple : (a q r x y : ℕ) → 0 < r → r < a → x ≡ q * a + r → y ≡ suc q * a → IsLeastMultiple a x y
above_multiple a q r x y some less e up = (
  ap (λ n. n % a) up ∙ mul-mod_left (suc q) a,
  omega (arith, suc-mul q a),
  λ k h. elim (cases_lt q k) [
    | inl above ↦ let most : suc q * a ≤ k * a = mul-le-mul_right a above in omega arith
    | inr below ↦ let most : k * a ≤ q * a = mul-le-mul_right a below in absurd (omega arith)
  ],
)

pub least_multiple : (a x : ℕ) → 0 < a → IsLeastMultiple a x (next_multiple_of x a)
least_multiple a x some =
    let less : x % a < a = mod-lt x some in
    let split : x ≡ x / a * a + x % a = omega arith in
    elim (cases_lt 0 (x % a)) [
      | inl part ↦
          let short : a - x % a < a = omega arith in
          let rest : (a - x % a) % a ≡ a - x % a = mod-eq_of_lt short in
          above_multiple a (x / a) (x % a) x (next_multiple_of x a) part less split
          (omega (arith, rest, suc-mul (x / a) a))
      | inr whole ↦
          let all : a - x % a ≡ 1 * a = omega arith in
          let rest : (a - x % a) % a ≡ 0 = ap (λ n. n % a) all ∙ mul-mod_left 1 a in
          at_multiple a (x / a) x (next_multiple_of x a) (omega (arith, split)) (omega (arith, rest))
    ]
