-- What is said of a list, one item more at a time.
use Rattle.std.proofs.Common.{refl, map, ◌≡◌, ℕ, ◌+◌, List, [], ◌∷◌, ◌++◌, length, Result, Ok, Err, subst, ap, sym, ◌∙◌, append_assoc, arith}
use Rattle.std.specs.Result.{OnOk}
use Rattle.std.specs.Iterator.{Drains, YieldsFirst, YieldsFirstBy}
use Rattle.std.proofs.lemmas.List.{append-nil}
use Rattle.elfshow_lines.proofs.Listing.{drained_by}
use Rattle.nugwier_report.specs.Said.{Said, numbered, saying}
use Rattle.nugwier_report.proofs.Saying.{then_said}

numbered_more : {X : Type 0} (said : ℕ → X → List Said) (k : ℕ) (xs : List X) (x : X) → numbered said k (xs ++ x ∷ []) ≡ numbered said k xs ++ said (k + length xs) x
numbered_more said k [] x = let here : k ≡ k + 0 = omega arith in append-nil (said k x) ∙ ap (λ n. said n x) here
numbered_more said k (y ∷ xs) x =
    let there : k + 1 + length xs ≡ k + length (y ∷ xs) = omega arith in
    ap (λ (t : List Said). said k y ++ t) (numbered_more said (k + 1) xs x)
    ∙ sym (append_assoc (said k y) (numbered said (k + 1) xs) (said (k + 1 + length xs) x))
    ∙ ap (λ n. (said k y ++ numbered said (k + 1) xs) ++ said n x) there

-- what is said after one more item
pub said_more : {A X : Type 0} (one : A → Said → A) (said : ℕ → X → List Said) (n : ℕ) (xs : List X) (x : X) (before now after : A) → n ≡ length xs → now ≡ saying one before (numbered said 0 xs) → after ≡ saying one now (said n x)
    → after ≡ saying one before (numbered said 0 (xs ++ x ∷ []))
said_more one said n xs x before now after count so more =
    let here : length xs ≡ 0 + length xs = omega arith in
    then_said one before now after (numbered said 0 xs) (said n x) so more
    ∙ ap (λ (m : ℕ). saying one before (numbered said 0 xs ++ said m x)) (count ∙ here)
    ∙ ap (λ (t : List Said). saying one before t) (sym (numbered_more said 0 xs x))

-- an iterator whose state shows the list that is left gives that list
pub drained : {S A : Type 0} (rest : S → List A) (s : S) (xs : List A) → Drains (YieldsFirst rest) s xs → xs ≡ rest s
drained rest s [] (u, (t, same, ends)) = sym (ap rest same ∙ ends.0)
drained rest s (x ∷ xs) (u, (t, (j, gives, goes_on), ends)) = ap (λ ys. x ∷ ys) (drained rest j xs (u, (t, goes_on, ends))) ∙ sym gives

-- so what holds of the items that it gave holds of that list
pub given : {S A T E : Type 0} (rest : S → List A) (s : S) (P : List A → Type 0) (r : Result T E) → OnOk r ((xs : List A) × Drains (YieldsFirst rest) s xs × P xs) → OnOk r (P (rest s))
given rest s P (Ok x) (xs, drains, holds) = subst P (drained rest s xs drains) holds
given rest s P (Err e) h = tt

pub numbered_by : {A B : Type 0} (view : A → B) (said : ℕ → B → List Said) (k : ℕ) (xs : List A) → numbered (λ n x. said n (view x)) k xs ≡ numbered said k (map view xs)
numbered_by view said k [] = refl
numbered_by view said k (x ∷ xs) = ap (λ (t : List Said). said k (view x) ++ t) (numbered_by view said (k + 1) xs)

-- so what is said of the items that it gave, by their views, is said of that list
pub given_by : {S A B T E : Type 0} (view : A → B) (rest : S → List B) (said : ℕ → B → List Said) (s : S) (P : List Said → Type 0) (r : Result T E) → OnOk r ((xs : List A) × Drains (YieldsFirstBy view rest) s xs × P (numbered (λ n x. said n (view x)) 0 xs)) → OnOk r (P (numbered said 0 (rest s)))
given_by view rest said s P (Ok x) (xs, drains, holds) = subst P (numbered_by view said 0 xs ∙ ap (λ ys. numbered said 0 ys) (drained_by view rest s xs drains)) holds
given_by view rest said s P (Err e) h = tt
