-- Dynamic entries whose strings can be read.
use Rattle.std.proofs.Common.{◌≡◌, ℕ, ◌+◌, ◌<◌, Bool, true, false, not, List, [], ◌∷◌, ◌&&◌, length, drop, take, Option, Some, None, refl, ap, sym, ◌∙◌, if◌then◌else◌, arith}
use Rattle.std.specs.List.{list_all, position, position_from, slice_get}
use Rattle.std.proofs.lemmas.Iterator.Adapters.{position_from-zero}
use Rattle.std.proofs.lemmas.List.{get_or-take, length-take}
use Rattle.std.proofs.lemmas.List.Sums.{AllPass-from_list_all}
use Rattle.std.proofs.lemmas.Option.{get_or_from_slice_get, slice_get_read, slice_get_within}
use Rattle.elf_records.specs.declared.dynamic.Dyn.{Dyn}
use Rattle.elf_check.specs.Dynamic.{entries_with_strings, string_of}
use Rattle.elf_check.proofs.Relocated.{drop_here}

-- ---- the first one that fails a test

step : {A : Type 0} (p : A → Bool) (x : A) (xs : List A) (i : ℕ) (b : Bool) (r : Option ℕ) → p x ≡ b → r ≡ (if not b then Some i else position_from (λ y. not (p y)) (i + 1) xs) → (position_from (λ y. not (p y)) (i + 1) xs ≡ None → list_all p xs ≡ true) → r ≡ None → list_all p (x ∷ xs) ≡ true
step p x xs i true r e d rest none = ap (λ (c : Bool). c && list_all p xs) e ∙ rest (sym d ∙ none)
step p x xs i false r e d rest none = absurd (cc (d, none))

none_from : {A : Type 0} (p : A → Bool) (i : ℕ) (xs : List A) → position_from (λ x. not (p x)) i xs ≡ None → list_all p xs ≡ true
none_from p i [] e = refl
none_from p i (x ∷ xs) e =
    step p x xs i (p x) (position_from (λ y. not (p y)) i (x ∷ xs)) refl refl (none_from p (i + 1) xs) e

pub all_pass : {A : Type 0} (p : A → Bool) (xs : List A) → position (λ x. not (p x)) xs ≡ None → list_all p xs ≡ true
all_pass p xs e = none_from p 0 xs (sym (position_from-zero (λ x. not (p x)) xs) ∙ e)

some_step : {A : Type 0} (p : A → Bool) (x : A) (xs : List A) (i : ℕ) (b : Bool) (k : ℕ) → p x ≡ b → (if not b then Some i else position_from (λ y. not (p y)) (i + 1) xs) ≡ Some k → (position_from (λ y. not (p y)) (i + 1) xs ≡ Some k → list_all p xs ≡ true → ⊥) → list_all p (x ∷ xs) ≡ true → ⊥
some_step p x xs i true k e d rest all = rest d (sym (ap (λ (c : Bool). c && list_all p xs) e) ∙ all)
some_step p x xs i false k e d rest all = absurd (cc (sym (ap (λ (c : Bool). c && list_all p xs) e) ∙ all))

some_from : {A : Type 0} (p : A → Bool) (i : ℕ) (xs : List A) (k : ℕ) → position_from (λ x. not (p x)) i xs ≡ Some k → list_all p xs ≡ true → ⊥
some_from p i [] k e all = absurd (cc e)
some_from p i (x ∷ xs) k e all = some_step p x xs i (p x) k refl e (some_from p (i + 1) xs k) all

pub one_fails : {A : Type 0} (p : A → Bool) (xs : List A) (k : ℕ) → position (λ x. not (p x)) xs ≡ Some k → list_all p xs ≡ true → ⊥
one_fails p xs k e all = some_from p 0 xs k (sym (position_from-zero (λ x. not (p x)) xs) ∙ e) all

-- ---- entries before DT_NULL

-- one of the first ones of a list
pub taken_at : {A : Type 0} (count : ℕ) (xs : List A) (i : ℕ) (x : A) → i < count → slice_get xs i ≡ Some x → slice_get (take count xs) i ≡ Some x
taken_at count xs i x less e =
    let here = slice_get_within xs i x e in
    slice_get_read (take count xs) (length (take count xs)) i x refl (omega (arith, length-take count xs, less, here))
    (sym (get_or-take count xs i x less ∙ get_or_from_slice_get xs i x x e))

pub passes_at : {A : Type 0} (p : A → Bool) (xs : List A) (i : ℕ) (x : A) → slice_get xs i ≡ Some x → list_all p xs ≡ true → p x ≡ true
passes_at p xs i x e all =
    ap p (sym (get_or_from_slice_get xs i x x e)) ∙ AllPass-from_list_all p xs all i x (slice_get_within xs i x e)

-- the next one, with its string
pub next_entry : (strings : List ℕ) (xs : List Dyn) (next : ℕ) (entry : Dyn) (string : Option (List ℕ)) → slice_get xs next ≡ Some entry → string ≡ string_of strings entry → entries_with_strings strings (drop next xs) ≡ (entry, string) ∷ entries_with_strings strings (drop (next + 1) xs)
next_entry strings xs next entry string e same =
    ap (entries_with_strings strings) (drop_here xs next entry e)
    ∙ ap (λ (y : Option (List ℕ)). (entry, y) ∷ entries_with_strings strings (drop (next + 1) xs)) (sym same)
