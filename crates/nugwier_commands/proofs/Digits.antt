-- What the digits of an address say.
use Rattle.std.proofs.Common.{◌≡◌, ◌<◌, ◌^◌, ◌&&◌, ◌==◌, ℕ, Bool, true, false, cond, ltb, eqb, List, [], ◌∷◌, Some, None}
use Rattle.std.proofs.Common.{Result, Ok, Err, Decides, refl, ap, subst, arith, rules, tests}
use Rattle.std.specs.Char.{digit_value}
use Rattle.std.specs.Result.{OkIff, result_ok}
use Rattle.std.specs.List.{starts_with}
use Rattle.std.specs.Str.Parse.{AllDigits, IsNumeral, ParsesUnsigned, digits_value, without_leading_plus}
use Rattle.std.proofs.lemmas.Bool.Decides.{Decides-and, Decides-ltb}
use Rattle.nugwier_commands.specs.Words.{are_digits, is_number, number_of}

-- the tests of the definition say what std's facts say
pub Decides-are_digits : (cs : List ℕ) → Decides (are_digits cs) (AllDigits 16 cs)
Decides-are_digits [] = (λ _. tt, λ _. refl)
Decides-are_digits (c ∷ cs) = Decides-and _ _ (Decides-ltb (digit_value c) 16) (Decides-are_digits cs)

pub Decides-is_number : (cs : List ℕ) → Decides (is_number cs) (IsNumeral 16 cs)
Decides-is_number [] = (λ e. absurd (cc), λ h. absurd (omega (arith, h.0)))
Decides-is_number (c ∷ cs) =
    (λ e. (omega arith, (Decides-are_digits (c ∷ cs)).0 e), λ h. (Decides-are_digits (c ∷ cs)).1 h.1)

-- what does not begin with a plus sign is read whole
pub without_plus : (cs : List ℕ) → starts_with eqb cs (43 ∷ []) ≡ false → without_leading_plus cs ≡ cs
without_plus [] h = refl
without_plus (c ∷ cs) h = let t : (c == 43) ≡ false = search (rules, tests) in search (rules, tests)

-- a number, if it is one and fits
fits : (cs : List ℕ)
    → Decides (is_number cs && ltb (digits_value 16 cs) (2 ^ 64)) (IsNumeral 16 cs × (digits_value 16 cs < 2 ^ 64))
fits cs = Decides-and _ _ (Decides-is_number cs) (Decides-ltb (digits_value 16 cs) (2 ^ 64))

number_by : {E : Type 0} → (b : Bool) (n : ℕ) (P : Type 0) (r : Result ℕ E)
    → Decides b P → OkIff r P n → result_ok r ≡ cond b (Some n) None
number_by b n P (Ok x) d h = rw (d.1 h.0) (ap Some h.1)
number_by true n P (Err e) d h = absurd (h (d.0 refl))
number_by false n P (Err e) d h = refl

pub number_of-parsed : {E : Type 0} → (cs : List ℕ) (r : Result ℕ E)
    → starts_with eqb cs (43 ∷ []) ≡ false → ParsesUnsigned 64 16 cs r → result_ok r ≡ number_of cs
number_of-parsed cs r plus h =
    let P : List ℕ → Type 0 = λ ds.
    OkIff r (IsNumeral 16 ds × (digits_value 16 ds < 2 ^ 64)) (digits_value 16 ds) in
    number_by _ (digits_value 16 cs) _ r (fits cs) (subst P (without_plus cs plus) h)
