-- What is true of at most one fault: results, options, and a check in stages.
use Rattle.std.proofs.Common.{◌≡◌, ℕ, ◌<◌, ◌⊎◌, Option, Some, None, Result, Ok, Err, refl, ap, sym, ◌∙◌, subst, inl, inr, arith}
use Rattle.std.specs.Option.{IsSomeAnd}
use Rattle.std.specs.Result.{IsErr, IsOk, IsOkAnd}
use Rattle.std.proofs.lemmas.Bool.{cases_lt}
use Rattle.elf_records.specs.declared.parse.ParseError.{ParseError}
use Rattle.elf_check.specs.Members.{IsFirstFault}

abbrev pub IsOnce : {F : Type 0} → (F → Type 0) → Type 0
IsOnce {F} IsTrue = (one other : F) → IsTrue one → IsTrue other → one ≡ other

-- ---- results and options

pub both : {A E : Type 0} (P Q : A → Type 0) (G : Type 0) (r : Result A E) → IsOkAnd r P → IsOkAnd r Q → ((x : A) → r ≡ Ok x → P x → Q x → G) → G
both P Q G (Ok x) p q f = f x refl p q
both P Q G (Err e) p q f = absurd p

pub both_some : {A : Type 0} (P Q : A → Type 0) (G : Type 0) (o : Option A) → IsSomeAnd o P → IsSomeAnd o Q → ((x : A) → P x → Q x → G) → G
both_some P Q G (Some x) p q f = f x p q
both_some P Q G None p q f = absurd p

pub some_value : {A : Type 0} (P : A → Type 0) (G : Type 0) (o : Option A) → IsSomeAnd o P → ((x : A) → o ≡ Some x → P x → G) → G
some_value P G (Some x) p f = f x refl p
some_value P G None p f = absurd p

pub weaker : {A E : Type 0} (P Q : A → Type 0) (r : Result A E) → ((x : A) → P x → Q x) → IsOkAnd r P → IsOkAnd r Q
weaker P Q (Ok x) f p = f x p
weaker P Q (Err e) f p = p

pub is_ok : {A E : Type 0} (P : A → Type 0) (r : Result A E) → IsOkAnd r P → IsOk r
is_ok P (Ok x) p = refl
is_ok P (Err e) p = absurd p

pub not_err : {A E : Type 0} (r : Result A E) → IsOk r → IsErr r → ⊥
not_err (Ok x) ok err = cc
not_err (Err e) ok err = cc

pub not_none : {A : Type 0} (P : A → Type 0) (o : Option A) → IsSomeAnd o P → o ≡ None → ⊥
not_none P (Some x) p e = cc
not_none P None p e = absurd p

pub one_number : (i j : ℕ) → (i < j → ⊥) → (j < i → ⊥) → i ≡ j
one_number i j not_less not_more = elim (cases_lt i j) [
  | inl less ↦ absurd (not_less less)
  | inr most ↦ elim (cases_lt j i) [
    | inl less ↦ absurd (not_more less)
    | inr least ↦ omega (arith, most, least)
  ]
]

pub not_below : (n k m : ℕ) → n ≡ k → m < k → n ≡ m → ⊥
not_below n k m e less d = omega (arith, e, less, d)

-- ---- stages

-- a fault of one kind or of another, by a condition
abbrev pub ByStage : {F : Type 0} → Type 0 → (F → Type 0) → (F → Type 0) → F → Type 0
ByStage P Now Later f = ((P → ⊥) × Now f) ⊎ (P × Later f)

pub one_by_stage : {F : Type 0} (P : Type 0) (Now Later : F → Type 0) → IsOnce Now → IsOnce Later → IsOnce (ByStage P Now Later)
one_by_stage P Now Later now later one other (inl x) (inl y) = now one other x.1 y.1
one_by_stage P Now Later now later one other (inl x) (inr y) = absurd (x.0 y.0)
one_by_stage P Now Later now later one other (inr x) (inl y) = absurd (y.0 x.0)
one_by_stage P Now Later now later one other (inr x) (inr y) = later one other x.1 y.1

-- a fault that is known
abbrev pub IsKnown : {F : Type 0} → F → F → Type 0
IsKnown known f = f ≡ known

pub one_known : {F : Type 0} (known : F) → IsOnce (IsKnown known)
one_known known one other x y = x ∙ sym y

-- a fault made of another one
abbrev pub IsMadeOf : {F G : Type 0} → (G → F) → (G → Type 0) → F → Type 0
IsMadeOf {G = G} make IsTrue f = (own : G) × (f ≡ make own) × IsTrue own

pub one_made : {F G : Type 0} (make : G → F) (IsTrue : G → Type 0) → IsOnce IsTrue → IsOnce (IsMadeOf make IsTrue)
one_made make IsTrue once one other (i, d, x) (j, e, y) = d ∙ ap make (once i j x y) ∙ sym e

-- ---- members

module _ {A F : Type 0} (at : ℕ → Result A ParseError) (IsSound : A → Type 0) (IsTrue : A → F → Type 0) (unsound : (x : A) (fault : F) → IsTrue x fault → IsSound x → ⊥) (once : (x : A) → IsOnce (IsTrue x)) where
  not_before : (i j : ℕ) (f g : F) → IsFirstFault at IsSound IsTrue i f → IsFirstFault at IsSound IsTrue j g → i < j → ⊥
  not_before i j f g x y less =
      both (λ v. IsTrue v f) (λ v. IsTrue v f) ⊥ (at i) x.true x.true (λ v e t u. unsound v f t (y.before i v less e))

  pub one_member : (i j : ℕ) (f g : F) → IsFirstFault at IsSound IsTrue i f → IsFirstFault at IsSound IsTrue j g → (i ≡ j) × (f ≡ g)
  one_member i j f g x y =
      let place = one_number i j (not_before i j f g x y) (not_before j i g f y x) in
      let there = subst (λ (n : ℕ). IsOkAnd (at n) (λ v. IsTrue v g)) (sym place) y.true in
      (place, both (λ v. IsTrue v f) (λ v. IsTrue v g) (f ≡ g) (at i) x.true there (λ v e t u. once v f g t u))
