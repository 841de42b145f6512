-- What is found passes the test.
use Rattle.std.proofs.Common.{◌≡◌, Bool, true, false, List, [], ◌∷◌, Option, Some, None, Result, refl, subst}
use Rattle.std.specs.Prelude.{IfOk, IsTrue, cond, ok_or}
use Rattle.std.specs.List.{find}

found_or : {X : Type 0} (p : X → Bool) (b : Bool) (y x : X) (rest : Option X) → p y ≡ b → (rest ≡ Some x → p x ≡ true) → cond b (Some y) rest ≡ Some x → p x ≡ true
found_or p true y x rest is later e = let same : y ≡ x = cc in subst (λ z. p z ≡ true) same is
found_or p false y x rest is later e = later e

found_passes : {X : Type 0} (p : X → Bool) (xs : List X) (x : X) → find p xs ≡ Some x → p x ≡ true
found_passes p [] x e = cc
found_passes p (y ∷ ys) x e = found_or p (p y) y x (find p ys) refl (λ f. found_passes p ys x f) e

passes_if : {X E : Type 0} (p : X → Bool) (xs : List X) (e : E) (found : Option X) → find p xs ≡ found → IfOk (ok_or found e) (λ x. IsTrue (p x))
passes_if p xs e None is = tt
passes_if p xs e (Some x) is = found_passes p xs x is

-- the same where finding nothing is an error
pub found_or_refused : {X E : Type 0} (p : X → Bool) (xs : List X) (e : E) (found : Option X) (r : Result X E) → found ≡ find p xs → r ≡ ok_or found e → IfOk r (λ x. IsTrue (p x))
found_or_refused p xs e found r is made = rw (made, is) (passes_if p xs e (find p xs) refl)
