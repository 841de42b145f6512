-- Lists of indexes, and the symbols of a name among them.
use Rattle.std.proofs.Common.{◌≡◌, ℕ, ◌-◌, ◌<◌, ◌≤◌, zero, suc, true, List, [], ◌∷◌, length, Option, Some, None, refl, ap, sym, ◌∙◌, subst, inl, inr, ◌⊎◌, arith}
use Rattle.std.specs.List.{All, AllPairs, Contains, cons_option, filter_map}
use Rattle.std.specs.Str.{bytes_eq}
use Rattle.std.proofs.lemmas.Bool.{cases_Bool}
use Rattle.std.proofs.lemmas.List.Elements.{All-cons, All-nil}
use Rattle.std.proofs.lemmas.List.Kept.{AllPairs-cons}
use Rattle.std.proofs.lemmas.Slice.Eq.{bytes_eq-Decides}
use Rattle.elf_records.specs.Table.{Table}
use Rattle.elf_records.specs.declared.symbol.Symbol.{Symbol}
use Rattle.elf_hash_check.specs.NamedSymbols.{indexes_from, symbol_named, where_named}
use Rattle.elf_hash_check.specs.WithSymbols.{symbol_and_name}

-- ---- membership and order, by recursion

abbrev pub In : {A : Type 0} → A → List A → Type 0
In x [] = ⊥
In x (y ∷ ys) = (y ≡ x) ⊎ In x ys

pub in_from_contains : {A : Type 0} (xs : List A) (x : A) → Contains xs x → In x xs
in_from_contains [] x (k, less, e) = absurd (omega (arith, less))
in_from_contains (y ∷ ys) x (zero, less, e) = inl e
in_from_contains (y ∷ ys) x (suc k, less, e) = inr (in_from_contains ys x (k, omega (arith, less), e))

pub contains_from_in : {A : Type 0} (xs : List A) (x : A) → In x xs → Contains xs x
contains_from_in [] x h = absurd h
contains_from_in (y ∷ ys) x (inl e) = (0, omega arith, e)
contains_from_in (y ∷ ys) x (inr h) = let c = contains_from_in ys x h in (suc c.0, omega (arith, c.1), c.2)

all_from_in : {A : Type 0} (P : A → Type 0) (xs : List A) → ((x : A) → In x xs → P x) → All P xs
all_from_in P [] h = All-nil P
all_from_in P (x ∷ xs) h = All-cons P x xs (h x (inl refl)) (all_from_in P xs (λ y there. h y (inr there)))

-- R holds of each element and each later one
abbrev pub Pairs : {A : Type 0} → (A → A → Type 0) → List A → Type 0
Pairs R [] = Unit {0}
Pairs {A = A} R (x ∷ xs) = ((y : A) → In y xs → R x y) × Pairs R xs

pub pairs_all : {A : Type 0} (R : A → A → Type 0) (xs : List A) → Pairs R xs → AllPairs R xs
pairs_all R [] h = λ i j d less below. absurd (omega (arith, below))
pairs_all R (x ∷ xs) h = AllPairs-cons R x xs (all_from_in (R x) xs h.0) (pairs_all R xs h.1)

-- ---- what a function keeps of indexes, if it keeps the index

module _ {B : Type 0} (f : ℕ → Option (ℕ × B)) (keeps : (i : ℕ) (one : ℕ × B) → f i ≡ Some one → one.0 ≡ i) where
  in_one : (i : ℕ) (is : List ℕ) (one : ℕ × B) (o : Option (ℕ × B)) → f i ≡ o →
      (In one (filter_map f is) → In one.0 is × (f one.0 ≡ Some one)) →
      In one (cons_option o (filter_map f is)) → In one.0 (i ∷ is) × (f one.0 ≡ Some one)
  in_one i is one None e rest h = let r = rest h in (inr r.0, r.1)
  in_one i is one (Some x) e rest (inl same) =
      let at : i ≡ one.0 = sym (keeps i x e) ∙ ap (λ (p : ℕ × B). p.0) same in
      (inl at, ap f (sym at) ∙ e ∙ ap Some same)
  in_one i is one (Some x) e rest (inr h) = let r = rest h in (inr r.0, r.1)

  pub in_kept : (is : List ℕ) (one : ℕ × B) → In one (filter_map f is) → In one.0 is × (f one.0 ≡ Some one)
  in_kept [] one h = absurd h
  in_kept (i ∷ is) one h = in_one i is one (f i) refl (in_kept is one) h

  kept_one : (i : ℕ) (is : List ℕ) (one : ℕ × B) (o : Option (ℕ × B)) → f i ≡ o → f one.0 ≡ Some one →
      (In one.0 is → In one (filter_map f is)) → In one.0 (i ∷ is) → In one (cons_option o (filter_map f is))
  kept_one i is one None e is_one rest (inl same) = absurd (let none : None ≡ Some one = sym e ∙ ap f same ∙ is_one in cc)
  kept_one i is one None e is_one rest (inr h) = rest h
  kept_one i is one (Some x) e is_one rest (inl same) =
      let here : Some x ≡ Some one = sym e ∙ ap f same ∙ is_one in inl (cc)
  kept_one i is one (Some x) e is_one rest (inr h) = inr (rest h)

  pub kept_in : (is : List ℕ) (one : ℕ × B) → f one.0 ≡ Some one → In one.0 is → In one (filter_map f is)
  kept_in [] one is_one h = absurd h
  kept_in (i ∷ is) one is_one h = kept_one i is one (f i) refl is_one (kept_in is one is_one) h

  pairs_one : (R : ℕ → ℕ → Type 0) (i : ℕ) (is : List ℕ) (o : Option (ℕ × B)) → f i ≡ o → ((y : ℕ) → In y is → R i y) →
      Pairs (λ a b. R a.0 b.0) (filter_map f is) → Pairs (λ a b. R a.0 b.0) (cons_option o (filter_map f is))
  pairs_one R i is None e first rest = rest
  pairs_one R i is (Some x) e first rest =
      let P : ℕ → Type 0 = λ (n : ℕ). (y : ℕ) → In y is → R n y in
      let here = subst P (sym (keeps i x e)) first in
      (λ y there. here y.0 (in_kept is y there).0, rest)

  pub pairs_kept : (R : ℕ → ℕ → Type 0) (is : List ℕ) → Pairs R is → Pairs (λ a b. R a.0 b.0) (filter_map f is)
  pairs_kept R [] h = tt
  pairs_kept R (i ∷ is) h = pairs_one R i is (f i) refl h.0 (pairs_kept R is h.1)

-- ---- the symbols of a name

module _ (symbols : Table) (strings name : List ℕ) where
  keeps_by : (i : ℕ) (one : ℕ × Symbol) (o : Option (Symbol × List ℕ)) → symbol_and_name symbols strings i ≡ o → where_named name i o ≡ Some one →
      (one.0 ≡ i) × (symbol_and_name symbols strings i ≡ Some (one.1, name))
  keeps_by i one None read e = cc
  keeps_by i one (Some found) read e = elim (cases_Bool (bytes_eq found.1 name)) [
    | inl same ↦
        let is : Some (i, found.0) ≡ Some one = sym (rw same refl) ∙ e in
        let at : (i, found.0) ≡ one = cc in
        let has : found.1 ≡ name = (bytes_eq-Decides found.1 name).0 same in
        (ap (λ (p : ℕ × Symbol). p.0) (sym at), read ∙ ap (λ (n : List ℕ). Some (found.0, n)) has ∙ ap (λ (p : ℕ × Symbol). Some (p.1, name)) at)
    | inr other ↦ absurd (let is : None ≡ Some one = sym (rw other refl) ∙ e in cc)
  ]

  pub keeps : (i : ℕ) (one : ℕ × Symbol) → symbol_named symbols strings name i ≡ Some one → one.0 ≡ i
  keeps i one e = (keeps_by i one (symbol_and_name symbols strings i) refl e).0

  pub has_name : (i : ℕ) (one : ℕ × Symbol) → symbol_named symbols strings name i ≡ Some one → symbol_and_name symbols strings one.0 ≡ Some (one.1, name)
  has_name i one e =
      let k = keeps_by i one (symbol_and_name symbols strings i) refl e in
      ap (symbol_and_name symbols strings) k.0 ∙ k.1

  pub is_named : (one : ℕ × Symbol) → symbol_and_name symbols strings one.0 ≡ Some (one.1, name) → symbol_named symbols strings name one.0 ≡ Some one
  is_named one e =
      let same : bytes_eq name name ≡ true = (bytes_eq-Decides name name).1 refl in
      rw (e, same) refl

-- ---- the steps of a walk

pub walk_none : (behind : ℕ → Option ℕ) (limit : ℕ) → indexes_from behind limit None ≡ []
walk_none behind zero = refl
walk_none behind (suc limit) = refl

pub walk_step : (behind : ℕ → Option ℕ) (limit index : ℕ) → 0 < limit → indexes_from behind limit (Some index) ≡ index ∷ indexes_from behind (limit - 1) (behind index)
walk_step behind zero index some = absurd (omega (arith, some))
walk_step behind (suc limit) index some = let less : suc limit - 1 ≡ limit = omega arith in rw less refl

pub walk_length : (behind : ℕ → Option ℕ) (limit : ℕ) (start : Option ℕ) → length (indexes_from behind limit start) ≤ limit
walk_length behind zero start = omega arith
walk_length behind (suc limit) None = omega arith
walk_length behind (suc limit) (Some index) = let rest = walk_length behind limit (behind index) in omega (arith, rest)

pub ruleset walk_steps = (walk_none, walk_step)
