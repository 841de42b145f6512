-- Numbers in both orders: what std's conversions of eight bytes give, and the big order as the little one of the
-- reversed bytes.
use Rattle.std.proofs.Common.{◌≡◌, ℕ, ◌+◌, ◌*◌, ◌^◌, true, false, refl, ap, sym, ◌∙◌, arith}
use Rattle.std.proofs.Common.{List, [], ◌∷◌, ◌++◌, length, reverse}
use Rattle.std.proofs.Math.Nat.{pow-suc, mul_assoc}
use Rattle.std.proofs.lemmas.List.{length-reverse, reverse-append}
use Rattle.std.specs.Int.{w64, from_le_bytes, from_be_bytes}
use Rattle.elf_records.specs.Number.{little_number, big_number, number}

pub from_le_bytes-64 : (bytes : List ℕ) → length bytes ≡ 8 → from_le_bytes w64 bytes ≡ number true bytes
from_le_bytes-64 [] e = absurd (omega arith)
from_le_bytes-64 (a ∷ []) e = absurd (omega arith)
from_le_bytes-64 (a ∷ b ∷ []) e = absurd (omega arith)
from_le_bytes-64 (a ∷ b ∷ c ∷ []) e = absurd (omega arith)
from_le_bytes-64 (a ∷ b ∷ c ∷ d ∷ []) e = absurd (omega arith)
from_le_bytes-64 (a ∷ b ∷ c ∷ d ∷ f ∷ []) e = absurd (omega arith)
from_le_bytes-64 (a ∷ b ∷ c ∷ d ∷ f ∷ g ∷ []) e = absurd (omega arith)
from_le_bytes-64 (a ∷ b ∷ c ∷ d ∷ f ∷ g ∷ h ∷ []) e = absurd (omega arith)
from_le_bytes-64 (a ∷ b ∷ c ∷ d ∷ f ∷ g ∷ h ∷ i ∷ []) e = omega arith
from_le_bytes-64 (a ∷ b ∷ c ∷ d ∷ f ∷ g ∷ h ∷ i ∷ j ∷ bytes) e = absurd (omega arith)

pub from_be_bytes-64 : (bytes : List ℕ) → length bytes ≡ 8 → from_be_bytes w64 bytes ≡ number false bytes
from_be_bytes-64 [] e = absurd (omega arith)
from_be_bytes-64 (a ∷ []) e = absurd (omega arith)
from_be_bytes-64 (a ∷ b ∷ []) e = absurd (omega arith)
from_be_bytes-64 (a ∷ b ∷ c ∷ []) e = absurd (omega arith)
from_be_bytes-64 (a ∷ b ∷ c ∷ d ∷ []) e = absurd (omega arith)
from_be_bytes-64 (a ∷ b ∷ c ∷ d ∷ f ∷ []) e = absurd (omega arith)
from_be_bytes-64 (a ∷ b ∷ c ∷ d ∷ f ∷ g ∷ []) e = absurd (omega arith)
from_be_bytes-64 (a ∷ b ∷ c ∷ d ∷ f ∷ g ∷ h ∷ []) e = absurd (omega arith)
from_be_bytes-64 (a ∷ b ∷ c ∷ d ∷ f ∷ g ∷ h ∷ i ∷ []) e = omega arith
from_be_bytes-64 (a ∷ b ∷ c ∷ d ∷ f ∷ g ∷ h ∷ i ∷ j ∷ bytes) e = absurd (omega arith)

pub ruleset number_64 = (from_le_bytes-64, from_be_bytes-64)

-- ---- the same bytes in the other order

one_byte_more :
    (bytes : List ℕ) (b : ℕ) → little_number (bytes ++ (b ∷ [])) ≡ little_number bytes + b * 256 ^ length bytes
one_byte_more [] b = omega arith
one_byte_more (c ∷ cs) b =
    let rest = one_byte_more cs b in
    let weight : b * 256 ^ length (c ∷ cs) ≡ b * 256 ^ length cs * 256 =
    ap (λ n. b * n) (pow-suc 256 (length cs)) ∙ sym (mul_assoc b (256 ^ length cs) 256) in
    omega (arith, rest, weight)

pub big_number_reversed : (bytes : List ℕ) → big_number bytes ≡ little_number (reverse bytes)
big_number_reversed [] = refl
big_number_reversed (b ∷ bytes) =
    let turned : little_number (reverse (b ∷ bytes)) ≡ little_number (reverse bytes) + b * 256 ^ length bytes =
    ap little_number (reverse-append (b ∷ []) bytes)
    ∙ one_byte_more (reverse bytes) b
    ∙ ap (λ n. little_number (reverse bytes) + b * 256 ^ n) (length-reverse bytes) in
    omega (arith, turned, big_number_reversed bytes)
