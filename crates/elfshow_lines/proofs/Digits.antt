-- The digits of a number, from the last one on.
use Rattle.std.proofs.Common.{◌≡◌, ℕ, zero, suc, ◌+◌, ◌-◌, ◌/◌, ◌%◌, ◌<◌, ◌≤◌, ◌*◌, ◌==◌, true, false, List, [], ◌∷◌, length, ap, drop, set, refl, sym, ◌∙◌, subst, arith}
use Rattle.std.specs.Fmt.{decimal, digit_glyph, digits, digits_onto}
use Rattle.std.proofs.lemmas.Grind.{common_steps}
use Rattle.std.proofs.lemmas.List.{drop-set, drop-set-lt, drop_all, length-set}

-- no digit is there
pub digits_begin : (base n : ℕ) (room : List ℕ) → length room ≡ 64 → digits_onto 64 base false n (drop 64 room) ≡ digits base false n
unfolding digits
digits_begin base n room long = ap (λ rest. digits_onto 64 base false n rest) (drop_all 64 room (omega (arith, long)))

step_more : (k base left : ℕ) (rest : List ℕ) → (left / base == 0) ≡ false
    → digits_onto (suc k) base false left rest ≡ digits_onto k base false (left / base) (digit_glyph false (left % base) ∷ rest)
step_more k base left rest other = rw other refl

step_end : (k base left : ℕ) (rest : List ℕ) → (left / base == 0) ≡ true
    → digits_onto (suc k) base false left rest ≡ digit_glyph false (left % base) ∷ rest
step_end k base left rest none = rw none refl

-- one more digit is there, and others are left
pub digits_more : (base start left : ℕ) (room whole : List ℕ) → 0 < start → start ≤ length room → (left / base == 0) ≡ false
    → digits_onto start base false left (drop start room) ≡ whole
    → digits_onto (start - 1) base false (left / base) (drop (start - 1) (set room (start - 1) (digit_glyph false (left % base)))) ≡ whole
digits_more base zero left room whole some fits other before = absurd (omega arith)
digits_more base (suc k) left room whole some fits other before =
    let e : suc k - 1 ≡ k = omega arith in
    let f : k + 1 ≡ suc k = omega arith in
    rw (e, drop-set room k (digit_glyph false (left % base)) (omega (arith, fits)), f) (sym (step_more k base left (drop (suc k) room) other) ∙ before)

-- the first digit is there
pub digits_end : (base start left : ℕ) (room whole : List ℕ) → 0 < start → start ≤ length room → (left / base == 0) ≡ true
    → digits_onto start base false left (drop start room) ≡ whole
    → drop (start - 1) (set room (start - 1) (digit_glyph false (left % base))) ≡ whole
digits_end base zero left room whole some fits none before = absurd (omega arith)
digits_end base (suc k) left room whole some fits none before =
    let e : suc k - 1 ≡ k = omega arith in
    let f : k + 1 ≡ suc k = omega arith in
    rw (e, drop-set room k (digit_glyph false (left % base)) (omega (arith, fits)), f) (sym (step_end k base left (drop (suc k) room) none) ∙ before)

-- ---- two digits at a time

tens : (n : ℕ) → n % 100 / 10 ≡ n / 10 % 10
tens n = omega arith

ones : (n : ℕ) → n % 100 % 10 ≡ n % 10
ones n = omega arith

others : (n : ℕ) → n / 10 / 10 ≡ n / 100
others n = omega arith

no_more : (n : ℕ) → n ≡ 0 → (n == 0) ≡ true
no_more n none = rw none refl

more : (n : ℕ) → 0 < n → (n == 0) ≡ false
more n some = grind (arith, common_steps)

module _ (p left : ℕ) (room whole : List ℕ) (last first : ℕ) (some : 0 < p) (fits : 2 * p ≤ length room)
    (last_is : last ≡ digit_glyph false (left % 100 % 10)) (first_is : first ≡ digit_glyph false (left % 100 / 10))
    (before : digits_onto (2 * p) 10 false left (drop (2 * p) room) ≡ whole) where
  last_place : 2 * p - 1 ≡ 2 * (p - 1) + 1
  last_place = omega (arith, some)

  first_place : 2 * p - 1 - 1 ≡ 2 * (p - 1)
  first_place = omega (arith, some)

  last_digit : last ≡ digit_glyph false (left % 10)
  last_digit = last_is ∙ ap (λ (n : ℕ). digit_glyph false n) (ones left)

  first_digit : first ≡ digit_glyph false (left / 10 % 10)
  first_digit = first_is ∙ ap (λ (n : ℕ). digit_glyph false n) (tens left)

  abbrev one : List ℕ
  one = set room (2 * p - 1) (digit_glyph false (left % 10))

  one_fits : 2 * p - 1 ≤ length one
  one_fits = omega (arith, some, fits, length-set room (2 * p - 1) (digit_glyph false (left % 10)))

  two_places : set one (2 * p - 1 - 1) (digit_glyph false (left / 10 % 10)) ≡ set (set room (2 * (p - 1) + 1) last) (2 * (p - 1)) first
  two_places = let a = last_place in let b = first_place in let c = last_digit in let d = first_digit in cc (a, b, c, d)

  one_more : 0 < left / 10 → digits_onto (2 * p - 1) 10 false (left / 10) (drop (2 * p - 1) one) ≡ whole
  one_more h = digits_more 10 (2 * p) left room whole (omega (arith, some)) fits (more (left / 10) h) before

  -- two more digits are there, and others are left
  pub pair_more : 0 < left / 100
      → digits_onto (2 * (p - 1)) 10 false (left / 100) (drop (2 * (p - 1)) (set (set room (2 * (p - 1) + 1) last) (2 * (p - 1)) first)) ≡ whole
  pair_more h =
      let some_left : 0 < left / 10 = omega (arith, h) in
      let more_left : 0 < left / 10 / 10 = omega (arith, h) in
      let two = digits_more 10 (2 * p - 1) (left / 10) one whole (omega (arith, some)) one_fits (more (left / 10 / 10) more_left) (one_more some_left) in
      subst (λ (n : ℕ). digits_onto n 10 false (left / 100) (drop n (set (set room (2 * (p - 1) + 1) last) (2 * (p - 1)) first)) ≡ whole) first_place
      (subst (λ (xs : List ℕ). digits_onto (2 * p - 1 - 1) 10 false (left / 100) (drop (2 * p - 1 - 1) xs) ≡ whole) two_places
      (subst (λ (n : ℕ). digits_onto (2 * p - 1 - 1) 10 false n (drop (2 * p - 1 - 1) (set one (2 * p - 1 - 1) (digit_glyph false (left / 10 % 10)))) ≡ whole) (others left) two))

  -- the first two digits are there
  pub pair_end : left / 100 ≡ 0 → 10 ≤ left % 100 → drop (2 * (p - 1)) (set (set room (2 * (p - 1) + 1) last) (2 * (p - 1)) first) ≡ whole
  pair_end none h =
      let some_left : 0 < left / 10 = omega (arith, h) in
      let none_left : left / 10 / 10 ≡ 0 = omega (arith, none) in
      let two = digits_end 10 (2 * p - 1) (left / 10) one whole (omega (arith, some)) one_fits (no_more (left / 10 / 10) none_left) (one_more some_left) in
      subst (λ (n : ℕ). drop n (set (set room (2 * (p - 1) + 1) last) (2 * (p - 1)) first) ≡ whole) first_place
      (subst (λ (xs : List ℕ). drop (2 * p - 1 - 1) xs ≡ whole) two_places two)

  -- the first digit is there, alone
  pub one_end : left / 100 ≡ 0 → left % 100 < 10 → drop (2 * (p - 1) + 1) (set (set room (2 * (p - 1) + 1) last) (2 * (p - 1)) first) ≡ whole
  one_end none h =
      let none_left : left / 10 ≡ 0 = omega (arith, none, h) in
      let end = digits_end 10 (2 * p) left room whole (omega (arith, some)) fits (no_more (left / 10) none_left) before in
      drop-set-lt (2 * (p - 1) + 1) (set room (2 * (p - 1) + 1) last) (2 * (p - 1)) first (omega arith)
      ∙ (let a = last_place in let b = last_digit in cc (end, a, b))

-- a number below ten has one digit
pub one_digit : (n : ℕ) → n < 10 → decimal n ≡ digit_glyph false n ∷ []
unfolding digits
one_digit zero l = refl
one_digit (suc zero) l = refl
one_digit (suc (suc zero)) l = refl
one_digit (suc (suc (suc zero))) l = refl
one_digit (suc (suc (suc (suc zero)))) l = refl
one_digit (suc (suc (suc (suc (suc zero))))) l = refl
one_digit (suc (suc (suc (suc (suc (suc zero)))))) l = refl
one_digit (suc (suc (suc (suc (suc (suc (suc zero))))))) l = refl
one_digit (suc (suc (suc (suc (suc (suc (suc (suc zero)))))))) l = refl
one_digit (suc (suc (suc (suc (suc (suc (suc (suc (suc zero))))))))) l = refl
one_digit (suc (suc (suc (suc (suc (suc (suc (suc (suc (suc n)))))))))) l = absurd (omega (arith, l))
