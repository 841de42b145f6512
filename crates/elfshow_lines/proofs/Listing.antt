-- The lines of a list, one item more at a time, and the items that an iterator gave.
use Rattle.std.proofs.Common.{refl, map, ◌≡◌, ℕ, ◌+◌, List, [], ◌∷◌, ◌++◌, length, Result, Ok, Err, subst, ap, sym, ◌∙◌, append_assoc, arith}
use Rattle.std.proofs.lemmas.List.{append-nil, length-map}
use Rattle.std.specs.Result.{OnOk}
use Rattle.std.specs.Iterator.{Drains, YieldsFirst, YieldsFirstBy}
use Rattle.elfshow_lines.specs.Counted.{end_line, counted_lines, numbered_lines}

pub numbered_lines_more : {X : Type 0} (line : ℕ → X → List ℕ) (k : ℕ) (xs : List X) (x : X) → numbered_lines line k (xs ++ x ∷ []) ≡ numbered_lines line k xs ++ line (k + length xs) x
numbered_lines_more line k [] x = let here : k ≡ k + 0 = omega arith in append-nil (line k x) ∙ ap (λ n. line n x) here
numbered_lines_more line k (y ∷ xs) x =
    let there : k + 1 + length xs ≡ k + length (y ∷ xs) = omega arith in
    ap (λ (t : List ℕ). line k y ++ t) (numbered_lines_more line (k + 1) xs x)
    ∙ sym (append_assoc (line k y) (numbered_lines line (k + 1) xs) (line (k + 1 + length xs) x))
    ∙ ap (λ n. (line k y ++ numbered_lines line (k + 1) xs) ++ line n x) there

-- an iterator whose state shows the list that is left gives that list
pub drained : {S A : Type 0} (rest : S → List A) (s : S) (xs : List A) → Drains (YieldsFirst rest) s xs → xs ≡ rest s
drained rest s [] (u, (t, same, ends)) = sym (ap rest same ∙ ends.0)
drained rest s (x ∷ xs) (u, (t, (j, gives, goes_on), ends)) = ap (λ ys. x ∷ ys) (drained rest j xs (u, (t, goes_on, ends))) ∙ sym gives

-- so what holds of the items that it gave holds of that list
pub given : {S A T E : Type 0} (rest : S → List A) (s : S) (P : List A → Type 0) (r : Result T E) → OnOk r ((xs : List A) × Drains (YieldsFirst rest) s xs × P xs) → OnOk r (P (rest s))
given rest s P (Ok x) (xs, drains, holds) = subst P (drained rest s xs drains) holds
given rest s P (Err e) h = tt

-- the same of an iterator whose items are compared by their view
pub drained_by : {S A B : Type 0} (view : A → B) (rest : S → List B) (s : S) (xs : List A) → Drains (YieldsFirstBy view rest) s xs → map view xs ≡ rest s
drained_by view rest s [] (u, (t, same, ends)) = sym (ap rest same ∙ ends.0)
drained_by view rest s (x ∷ xs) (u, (t, (j, gives, goes_on), ends)) = ap (λ ys. view x ∷ ys) (drained_by view rest j xs (u, (t, goes_on, ends))) ∙ sym gives

numbered_lines_by : {A B : Type 0} (view : A → B) (line : ℕ → B → List ℕ) (k : ℕ) (xs : List A) → numbered_lines (λ n x. line n (view x)) k xs ≡ numbered_lines line k (map view xs)
numbered_lines_by view line k [] = refl
numbered_lines_by view line k (x ∷ xs) = ap (λ (t : List ℕ). line k (view x) ++ t) (numbered_lines_by view line (k + 1) xs)

pub counted_by : {A B : Type 0} (view : A → B) (line : ℕ → B → List ℕ) (xs : List A) → counted_lines (λ n x. line n (view x)) xs ≡ counted_lines line (map view xs)
counted_by view line xs = ap (λ n. numbered_lines (λ n x. line n (view x)) 0 xs ++ end_line n) (sym (length-map xs view)) ∙ ap (λ (t : List ℕ). t ++ end_line (length (map view xs))) (numbered_lines_by view line 0 xs)

-- so the text of the items that it gave is the text of that list
pub given_by : {S A B T E : Type 0} (view : A → B) (rest : S → List B) (line : ℕ → B → List ℕ) (s : S) (P : List ℕ → Type 0) (r : Result T E) → OnOk r ((xs : List A) × Drains (YieldsFirstBy view rest) s xs × P (counted_lines (λ n x. line n (view x)) xs)) → OnOk r (P (counted_lines line (rest s)))
given_by view rest line s P (Ok x) (xs, drains, holds) = subst P (counted_by view line xs ∙ ap (λ ys. counted_lines line ys) (drained_by view rest s xs drains)) holds
given_by view rest line s P (Err e) h = tt
