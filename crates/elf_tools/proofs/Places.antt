-- The elements of a list that pass a test, if they are its first ones.
use Rattle.std.proofs.Common.{◌≡◌, ℕ, zero, suc, ◌-◌, ◌<◌, ◌≤◌, Bool, true, false, List, [], ◌∷◌, length, refl, sym, ap, ◌∙◌, arith, Option, None, Some, get_or}
use Rattle.std.specs.Prelude.{cond, take, filter}
use Rattle.std.specs.List.{AllWithin, last_or}

module _ {X : Type 0} (p : X → Bool) where
  kept : (x : X) (xs : List X) → p x ≡ true → filter p (x ∷ xs) ≡ x ∷ filter p xs
  kept x xs h = ap (λ b. cond b (x ∷ filter p xs) (filter p xs)) h

  left : (x : X) (xs : List X) → p x ≡ false → filter p (x ∷ xs) ≡ filter p xs
  left x xs h = ap (λ b. cond b (x ∷ filter p xs) (filter p xs)) h

  none_pass : (xs : List X) → AllWithin (λ y. p y ≡ false) xs 0 (length xs) → filter p xs ≡ []
  none_pass [] h = refl
  none_pass (x ∷ xs) h =
      left x xs (h 0 x (omega arith) (omega arith))
      ∙ none_pass xs (λ k d low high. h (suc k) d (omega arith) (omega (arith, high)))

  -- the first n pass, and no others
  pub first_pass : (xs : List X) (n : ℕ) → n ≤ length xs → AllWithin (λ y. p y ≡ true) xs 0 n → AllWithin (λ y. p y ≡ false) xs n (length xs) → filter p xs ≡ take n xs
  first_pass xs zero le front back = none_pass xs back
  first_pass [] (suc n) le front back = refl
  first_pass (x ∷ xs) (suc n) le front back =
      kept x xs (front 0 x (omega arith) (omega arith))
      ∙ ap (λ l. x ∷ l) (first_pass xs n (omega (arith, le)) (λ k d low high. front (suc k) d (omega arith) (omega (arith, high))) (λ k d low high. back (suc k) d (omega (arith, low)) (omega (arith, high))))

last_of : {X : Type 0} (o : Option X) (xs : List X) (n : ℕ) (d : X) → n < length xs → last_or o (take (suc n) xs) ≡ Some (get_or xs n d)
last_of o [] n d h = absurd (omega (arith, h))
last_of o (x ∷ xs) zero d h = refl
last_of o (x ∷ xs) (suc n) d h = last_of (Some x) xs n d (omega (arith, h))

-- the last of the first n
pub last_taken : {X : Type 0} (xs : List X) (n : ℕ) (d : X) → 0 < n → n ≤ length xs → last_or None (take n xs) ≡ Some (get_or xs (n - 1) d)
last_taken xs zero d some le = absurd (omega (arith, some))
last_taken xs (suc n) d some le =
    let same : suc n - 1 ≡ n = omega arith in
    last_of None xs n d (omega (arith, le)) ∙ ap (λ k. Some (get_or xs k d)) (sym same)
