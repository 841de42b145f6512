-- The chain of a bucket in which symbols were put in order.
use Rattle.std.proofs.Common.{◌≡◌, ℕ, ◌+◌, ◌<◌, ◌≤◌, zero, suc, true, false, eqb, List, [], ◌∷◌, length, Option, Some, refl, ap, sym, ◌∙◌, subst, inl, inr, arith}
use Rattle.std.specs.Prelude.{◌⊎◌}
use Rattle.std.specs.List.{Contains, IsDistinct}
use Rattle.std.proofs.lemmas.Bool.{cases_Bool, cases_lt, eqb-true}
use Rattle.std.proofs.lemmas.Bool.Decides.{Decides-eqb}
use Rattle.std.proofs.lemmas.List.Elements.{All-contains, All-from_recursion}
use Rattle.std.proofs.lemmas.Map.Keys.{IsDistinct-head, IsDistinct-tail}
use Rattle.elf_laws.specs.Built.{bucket_after, chain_after}

-- ---- members of a list

pub head_in : (x : ℕ) (xs : List ℕ) → Contains (x ∷ xs) x
head_in x xs = (0, omega arith, refl)

pub tail_in : (x y : ℕ) (xs : List ℕ) → Contains xs y → Contains (x ∷ xs) y
tail_in x y xs (k, below, e) = (suc k, omega (arith, below), e)

first_or_later : (x y : ℕ) (xs : List ℕ) → Contains (x ∷ xs) y → (x ≡ y) ⊎ Contains xs y
first_or_later x y xs (zero, below, e) = inl e
first_or_later x y xs (suc k, below, e) = inr (k, omega (arith, below), e)

none_in : (y : ℕ) → Contains [] y → ⊥
none_in y (k, below, e) = omega (arith, below)

not_again : (x y : ℕ) (xs : List ℕ) → IsDistinct eqb (x ∷ xs) → Contains xs y → eqb x y ≡ false
not_again x y xs distinct h =
    let P : ℕ → Type 0 = λ z. eqb x z ≡ false in
    All-contains P xs y (All-from_recursion P xs (IsDistinct-head eqb x xs distinct)) h

pub same_test : (x : ℕ) → eqb x x ≡ true
same_test x = (Decides-eqb x x).1 refl

below_suc : (P : ℕ → Type 0) (n : ℕ) → ((i : ℕ) → i < n → P i) → P n → (i : ℕ) → i < suc n → P i
below_suc P n before here i below = elim (cases_lt i n) [
  | inl less ↦ before i less
  | inr not_less ↦ let same : n ≡ i = omega (arith, below, not_less) in subst P same here
]

-- ---- one bucket: `value` gives the values of its chain

module _ (bucket_of : ℕ → ℕ) (put : List ℕ) (bucket : ℕ) (value : ℕ → Option ℕ) where
  -- value i of the chain is a symbol of the bucket that was put in
  pub record Visited (i : ℕ) : Type 0 where
    pub index : ℕ
    pub is : value i ≡ Some index
    pub member : Contains put index
    pub own : bucket_of index ≡ bucket

  -- the chain ends, and visits those symbols of the bucket that are left
  pub record Chained (left : List ℕ) (j : ℕ) : Type 0 where
    pub last : ℕ
    pub further : j ≤ last
    pub short : last ≤ length put
    pub ends : value last ≡ Some 0
    pub visited : (i : ℕ) → i < last → Visited i
    pub reached : (k : ℕ) → Contains left k → bucket_of k ≡ bucket → (i : ℕ) × (i < last) × (value i ≡ Some k)

  -- after a symbol that was put in comes its chain word
  abbrev pub Steps : Type 0
  Steps = (j x : ℕ) → Contains put x → value j ≡ Some x → value (suc j) ≡ Some (chain_after bucket_of put x)

  -- what holds at value j where these symbols are left
  pub record Left (left : List ℕ) (j : ℕ) : Type 0 where
    pub room : length left + j ≤ length put
    pub inside : (k : ℕ) → Contains left k → Contains put k
    pub distinct : IsDistinct eqb left
    pub same : (k : ℕ) → Contains left k → chain_after bucket_of put k ≡ chain_after bucket_of left k
    pub before : (i : ℕ) → i < j → Visited i
    pub here : value j ≡ Some (bucket_after bucket_of left bucket)

  same_later : (x : ℕ) (rest : List ℕ) (j : ℕ) → Left (x ∷ rest) j → (k : ℕ) → Contains rest k →
      chain_after bucket_of put k ≡ chain_after bucket_of rest k
  same_later x rest j left k h =
      let other = not_again x k rest left.distinct h in
      let skip : chain_after bucket_of (x ∷ rest) k ≡ chain_after bucket_of rest k = rw other refl in
      left.same k (tail_in x k rest h) ∙ skip

  -- a symbol of the bucket is value j
  at_own : (x : ℕ) (rest : List ℕ) (j : ℕ) → Left (x ∷ rest) j → eqb (bucket_of x) bucket ≡ true → value j ≡ Some x
  at_own x rest j left own =
      let front : bucket_after bucket_of (x ∷ rest) bucket ≡ x = rw own refl in
      left.here ∙ ap Some front

  step_own : Steps → (x : ℕ) (rest : List ℕ) (j : ℕ) → Left (x ∷ rest) j → eqb (bucket_of x) bucket ≡ true →
      Left rest (suc j)
  step_own steps x rest j left own =
      let is : bucket_of x ≡ bucket = eqb-true (bucket_of x) bucket own in
      let at = at_own x rest j left own in
      let member = left.inside x (head_in x rest) in
      let front : chain_after bucket_of (x ∷ rest) x ≡ bucket_after bucket_of rest (bucket_of x) =
      rw (same_test x) refl in
      let word : chain_after bucket_of put x ≡ bucket_after bucket_of rest bucket =
      left.same x (head_in x rest) ∙ front ∙ ap (bucket_after bucket_of rest) is in
      record {
        room = omega (arith, left.room);
        inside = λ k h. left.inside k (tail_in x k rest h);
        distinct = IsDistinct-tail eqb x rest left.distinct;
        same = same_later x rest j left;
        before = below_suc Visited j left.before (record { index = x; is = at; member = member; own = is });
        here = steps j x member at ∙ ap Some word;
      }

  step_other : (x : ℕ) (rest : List ℕ) (j : ℕ) → Left (x ∷ rest) j → eqb (bucket_of x) bucket ≡ false → Left rest j
  step_other x rest j left other =
      let skip : bucket_after bucket_of (x ∷ rest) bucket ≡ bucket_after bucket_of rest bucket = rw other refl in
      record {
        room = omega (arith, left.room);
        inside = λ k h. left.inside k (tail_in x k rest h);
        distinct = IsDistinct-tail eqb x rest left.distinct;
        same = same_later x rest j left;
        before = left.before;
        here = left.here ∙ ap Some skip;
      }

  chained : Steps → (left : List ℕ) (j : ℕ) → Left left j → Chained left j
  chained steps [] j left = record {
    last = j;
    further = omega arith;
    short = omega (arith, left.room);
    ends = left.here;
    visited = left.before;
    reached = λ k h own. absurd (none_in k h);
  }
  chained steps (x ∷ rest) j left = elim (cases_Bool (eqb (bucket_of x) bucket)) [
    | inl own ↦
        let more = chained steps rest (suc j) (step_own steps x rest j left own) in
        record {
          last = more.last;
          further = omega (arith, more.further);
          short = more.short;
          ends = more.ends;
          visited = more.visited;
          reached = λ k h is. elim (first_or_later x k rest h) [
            | inl same ↦ (j, omega (arith, more.further), at_own x rest j left own ∙ ap Some same)
            | inr later ↦ more.reached k later is
          ];
        }
    | inr other ↦
        let more = chained steps rest j (step_other x rest j left other) in
        record {
          last = more.last;
          further = more.further;
          short = more.short;
          ends = more.ends;
          visited = more.visited;
          reached = λ k h is. elim (first_or_later x k rest h) [
            | inl same ↦
                let e : eqb (bucket_of x) bucket ≡ true =
                (Decides-eqb (bucket_of x) bucket).1 (ap bucket_of same ∙ is) in
                absurd (let no : true ≡ false = sym e ∙ other in cc no)
            | inr later ↦ more.reached k later is
          ];
        }
  ]

  -- from the word of the bucket on
  pub whole_chain : Steps → IsDistinct eqb put → value 0 ≡ Some (bucket_after bucket_of put bucket) → Chained put 0
  whole_chain steps distinct start = chained steps put 0 (record {
    room = omega arith;
    inside = λ k h. h;
    distinct = distinct;
    same = λ k h. refl;
    before = λ i below. absurd (omega (arith, below));
    here = start;
  })
