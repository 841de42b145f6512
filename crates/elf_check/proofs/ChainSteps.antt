-- Linked records that are checked in order.
use Rattle.std.proofs.Common.{◌≡◌, ◌↔◌, ℕ, zero, suc, ◌+◌, Bool, true, false, not, List, [], ◌∷◌, take, drop, Option, Some, None, IsTrue, refl, ap, sym, ◌∙◌, subst, arith, add-one, MatchOption}
use Rattle.std.specs.List.{AllByRecursion, slice_get}
use Rattle.std.specs.Option.{IsSomeAnd, is_some}
use Rattle.elf_check.specs.Chains.{IsTrueOfChain, SoundChain}
use Rattle.elf_check.specs.declared.faults.ChainFault.{ChainFault}
use Rattle.elf_check.specs.declared.faults.ChainFault.TheVariants.{At, NotLast, Short}

module _ {A : Type 0} (P : A → Type 0) where
  -- the first of those after the first n
  pub record FirstAfter (all : List A) (n : ℕ) (x : A) (after : List A) : Type 0 where
    pub here : slice_get all n ≡ Some x
    pub rest : after ≡ drop (suc n) all
    pub more : AllByRecursion P (take n all) → P x → AllByRecursion P (take (suc n) all)

  first_after : (all : List A) (n : ℕ) (x : A) (after : List A) → x ∷ after ≡ drop n all → FirstAfter all n x after
  first_after [] zero x after e = absurd (cc)
  first_after [] (suc n) x after e = absurd (cc)
  first_after (y ∷ ys) zero x after e =
      let same : x ≡ y = cc in
      record { here = ap Some (sym same); rest = cc; more = λ all p. (subst P same p, tt) }
  first_after (y ∷ ys) (suc n) x after e =
      let r = first_after ys n x after e in
      record { here = r.here; rest = r.rest; more = λ all p. (all.0, r.more all.1 p) }

  pub bad_at : (xs : List A) (i : ℕ) → AllByRecursion P xs → IsSomeAnd (slice_get xs i) (λ x. ¬ P x) → ⊥
  bad_at [] zero all bad = bad
  bad_at [] (suc i) all bad = bad
  bad_at (x ∷ xs) zero all bad = bad all.0
  bad_at (x ∷ xs) (suc i) all bad = bad_at xs i all.1 bad

  pub some_and_not : (o : Option A) (x : A) → o ≡ Some x → ¬ P x → IsSomeAnd o (λ y. ¬ P y)
  some_and_not o x e not = subst (λ (q : Option A). IsSomeAnd q (λ y. ¬ P y)) (sym e) not

  -- a record that is not sound
  pub not_here : (all left : List A) (n : ℕ) (x : A) (after : List A) → left ≡ drop n all → left ≡ x ∷ after → ¬ P x → IsSomeAnd (slice_get all n) (λ y. ¬ P y)
  not_here all left n x after at e not =
      some_and_not (slice_get all n) x (first_after all n x after (sym e ∙ at)).here not

  pub after_more : (all left : List A) (n : ℕ) (x : A) (after : List A) → left ≡ drop n all → left ≡ x ∷ after → after ≡ drop (n + 1) all
  after_more all left n x after at e = rw add-one ((first_after all n x after (sym e ∙ at)).rest)

  pub sound_more : (all left : List A) (n : ℕ) (x : A) (after : List A) → left ≡ drop n all → left ≡ x ∷ after → AllByRecursion P (take n all) → P x → AllByRecursion P (take (n + 1) all)
  sound_more all left n x after at e before sound = rw add-one ((first_after all n x after (sym e ∙ at)).more before sound)

module _ {A : Type 0} (distance : A → ℕ) (IsSound : ℕ × A → Type 0) where
  pub true_chain : (count : ℕ) (list : List (ℕ × A)) (fault : ChainFault) → IsTrueOfChain distance IsSound count list fault → SoundChain distance IsSound count list → ⊥
  true_chain count list (Short found) holds sound = omega (arith, holds.1, holds.2, sound.all)
  true_chain count list NotLast holds sound = holds.2 sound.ends
  true_chain count list (At index) holds sound = bad_at IsSound list index sound.each holds.0

  verdict : (count : ℕ) (list : List (ℕ × A)) (r : Option ChainFault) (b : Bool) → is_some r ≡ not b → MatchOption r (SoundChain distance IsSound count list) (IsTrueOfChain distance IsSound count list) → IsTrue b ↔ SoundChain distance IsSound count list
  verdict count list None true e h = (λ _. h, λ _. refl)
  verdict count list None false e h = absurd (cc)
  verdict count list (Some fault) true e h = absurd (cc)
  verdict count list (Some fault) false e h = (λ d. absurd (cc d), λ sound. absurd (true_chain count list fault h sound))

  -- no fault is found exactly where the records are sound
  pub no_fault : (count : ℕ) (left list : List (ℕ × A)) (r : Option ChainFault) (b : Bool) → left ≡ list → is_some r ≡ not b → MatchOption r (SoundChain distance IsSound count left) (IsTrueOfChain distance IsSound count left) → IsTrue b ↔ SoundChain distance IsSound count list
  no_fault count left list r b same e h =
      verdict count list r b e (subst (λ (xs : List (ℕ × A)). MatchOption r (SoundChain distance IsSound count xs) (IsTrueOfChain distance IsSound count xs)) same h)
