-- Places that are filled from their front with what a table holds.
use Rattle.std.proofs.Common.{drop-drop, inl, inr, [], ◌∷◌, zero, suc, ◌≡◌, ℕ, ◌+◌, ◌-◌, ◌<◌, ◌≤◌, List, Option, Result, Ok, Some, length, slice_get, slice_set, drop, sym, subst, ◌∙◌, ap, arith, refl, rules}
use Rattle.std.proofs.lemmas.Bool.{cases_eq}
use Rattle.std.proofs.lemmas.List.{drop-set-lt}
use Rattle.elf_records.specs.declared.parse.ParseError.{ParseError}
use Rattle.elf_c.specs.Filled.{AreFilled, AreRead, IsHeld}

pub slice_get-set_same : {X : Type 0} (xs : List X) (n : ℕ) (v : X) → n < length xs →
    slice_get (slice_set xs n v) n ≡ Some v
slice_get-set_same [] n v within = absurd (omega (arith, within))
slice_get-set_same (x ∷ xs) zero v within = refl
slice_get-set_same (x ∷ xs) (suc n) v within = slice_get-set_same xs n v (omega (arith, within))

pub slice_get-set_other : {X : Type 0} (xs : List X) (n k : ℕ) (v : X) → k < n → n < length xs →
    slice_get (slice_set xs n v) k ≡ slice_get xs k
slice_get-set_other [] n k v before within = absurd (omega (arith, within))
slice_get-set_other (x ∷ xs) zero k v before within = absurd (omega (arith, before))
slice_get-set_other (x ∷ xs) (suc n) zero v before within = refl
slice_get-set_other (x ∷ xs) (suc n) (suc k) v before within =
    slice_get-set_other xs n k v (omega (arith, before)) (omega (arith, within))

-- what is after the next place is as it was
pub rest_more : {X : Type 0} (n : ℕ) (xs ys : List X) (v : X) → drop n xs ≡ drop n ys →
    drop (n + 1) (slice_set xs n v) ≡ drop (n + 1) ys
rest_more n xs ys v same =
    drop-set-lt (n + 1) xs n v (omega arith) ∙ sym (drop-drop 1 n xs) ∙ ap (λ l. drop 1 l) same ∙ drop-drop 1 n ys

-- one place more, by what holds of each
pub more_places : {X : Type 0} (P : ℕ → Option X → Type 0) (n : ℕ) (xs : List X) (v : X) → n < length xs →
    ((k : ℕ) → k < n → P k (slice_get xs k)) → P n (Some v) →
    (k : ℕ) → k < n + 1 → P k (slice_get (slice_set xs n v) k)
more_places {X = X} P n xs v within filled here k before =
    elim (cases_eq k n) [
      | inl same ↦
          let Q : ℕ → Type 0 = λ j. P j (slice_get (slice_set xs n v) j) in
          subst Q (sym same) (subst (P n) (sym (slice_get-set_same xs n v within)) here)
      | inr other ↦
          let less : k < n = omega (arith, before, other) in
          subst (P k) (sym (slice_get-set_other xs n k v less within)) (filled k less)
    ]

module _ {A C : Type 0} (Holds : A → C → Type 0) (read : ℕ → Result A ParseError) (first : ℕ) where
  -- before the first place
  pub none_read : (xs : List C) → AreRead Holds read first 0 xs xs
  none_read xs = record { count = omega arith; held = λ k before. absurd (omega (arith, before)); rest = refl }

  -- one place more
  pub one_read : (n : ℕ) (old xs : List C) (x : A) (v : C) → n < length xs → AreRead Holds read first n old xs →
      read (first + n) ≡ Ok x → Holds x v → AreRead Holds read first (n + 1) old (slice_set xs n v)
  one_read n old xs x v within kept is holds =
      let P : ℕ → Option C → Type 0 = λ k place. IsHeld Holds (read (first + k)) place in
      let R : Result A ParseError → Type 0 = λ r. IsHeld Holds r (Some v) in
      let size : length (slice_set xs n v) ≡ length xs = search rules in
      record {
        count = omega (arith, within, size);
        held = more_places P n xs v within kept.held (subst R (sym is) holds);
        rest = rest_more n xs old v kept.rest;
      }

  -- a second filling goes on from the end of the first
  pub both_filled : (m n : ℕ) (old mid new : List C) → m ≤ n → AreRead Holds read first m old mid →
      AreFilled Holds read first n mid new → AreFilled Holds read first n old new
  both_filled m n old mid new low front back =
      let end : m + (n - m) ≡ n = omega (arith, low) in
      let from : (l : List C) → drop (n - m) (drop m l) ≡ drop n l =
      λ l. drop-drop (n - m) m l ∙ ap (λ (k : ℕ). drop k l) end in
      record {
        front = record {
          count = back.front.count;
          held = back.front.held;
          rest = back.front.rest ∙ sym (from mid) ∙ ap (λ (l : List C). drop (n - m) l) front.rest ∙ from old;
        };
        all = back.all;
      }

  -- no place is left
  pub all_filled : (n : ℕ) (old new : List C) → n ≡ length new → AreRead Holds read first n old new →
      AreFilled Holds read first n old new
  all_filled n old new full front = record { front = front; all = λ short. absurd (omega (arith, full, short)) }
