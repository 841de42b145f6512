-- Rows whose values rise: what a binary search in them finds is the look-up in the whole list.
use Rattle.std.proofs.Common.{◌≡◌, ℕ, zero, suc, ◌<◌, ◌≤◌, Bool, true, false, List, [], ◌∷◌, length, get_or, map, Some, None, Ordering, is_eq, is_lt, refl, sym, ap, ◌∙◌, inl, inr, arith}
use Rattle.std.specs.Borrow.{Bor}
use Rattle.std.specs.Ordering.{eq_by_cmp, ordering_index}
use Rattle.std.specs.declared.cmp.Ordering.TheVariants.{Less, Equal, Greater}
use Rattle.std.specs.Cmp.{IsTotalOrder}
use Rattle.std.specs.List.{HoldsAt}
use Rattle.std.specs.List.Sorted.{IsPartitionPoint, IsNonDecreasingBy}
use Rattle.std.proofs.lemmas.Bool.{true≢false, and_parts, cases_lt}
use Rattle.std.proofs.lemmas.Cmp.{alike_right}
use Rattle.elf_abi.specs.Names.{name_of, row_of, is_before, values_rise}

Less_of : (o : Ordering) → is_lt o ≡ true → o ≡ Less
Less_of Less e = refl
Less_of Equal e = absurd (true≢false (sym e))
Less_of Greater e = absurd (true≢false (sym e))

index_le : (o : Ordering) → ordering_index o ≤ 2
index_le Less = omega arith
index_le Equal = omega arith
index_le Greater = omega arith

module _ {K : Type 0} {cmp : K → K → Ordering} (total : IsTotalOrder cmp) where
  index_rises : (x y value : K) (o : Ordering) → cmp x y ≡ Less → cmp y value ≡ o → ordering_index (cmp x value) ≤ ordering_index o
  index_rises x y value Less below here = rw (total.trans x y value below here) (omega arith)
  index_rises x y value Equal below here = rw (sym (alike_right total y value x here) ∙ below) (omega arith)
  index_rises x y value Greater below here = index_le (cmp x value)

module _ {K N : Type 0} {cmp : K → K → Ordering} (total : IsTotalOrder cmp) where
  -- a value that is below the first of rising rows is below each
  below_each : (value : K) (rows : List (K × N)) → is_before cmp value rows ≡ true → values_rise cmp rows ≡ true
      → (k : ℕ) (d : K × N) → k < length rows → cmp value (get_or rows k d).0 ≡ Less
  below_each value [] before rise k d lt = absurd (omega arith)
  below_each value (row ∷ rows) before rise zero d lt = Less_of _ before
  below_each value (row ∷ rows) before rise (suc k) d lt =
      let parts = and_parts (is_before cmp row.0 rows) (values_rise cmp rows) rise in
      total.trans value row.0 _ (Less_of _ before) (below_each row.0 rows parts.0 parts.1 k d (omega arith))

  -- each value is below the later ones
  pub in_order : (rows : List (K × N)) → values_rise cmp rows ≡ true
      → (i j : ℕ) (d : K × N) → i < j → j < length rows → cmp (get_or rows i d).0 (get_or rows j d).0 ≡ Less
  in_order [] rise i j d lt in_range = absurd (omega arith)
  in_order (row ∷ rows) rise i zero d lt in_range = absurd (omega arith)
  in_order (row ∷ rows) rise zero (suc j) d lt in_range =
      let parts = and_parts (is_before cmp row.0 rows) (values_rise cmp rows) rise in
      below_each row.0 rows parts.0 parts.1 j d (omega arith)
  in_order (row ∷ rows) rise (suc i) (suc j) d lt in_range =
      let parts = and_parts (is_before cmp row.0 rows) (values_rise cmp rows) rise in
      in_order rows parts.1 i j d (omega arith) (omega arith)

  -- the comparisons with a value rise along the rows, as a binary search requires
  comparisons_rise : (rows : List (K × N)) → values_rise cmp rows ≡ true → (value : K) → IsNonDecreasingBy (λ row. ordering_index (cmp row.0 value)) rows
  comparisons_rise rows rise value i j d le lt = elim (cases_lt i j) [
    | inl below ↦ index_rises total _ _ value _ (in_order rows rise i j d below lt) refl
    | inr above ↦ let same : i ≡ j = omega arith in rw same (omega arith)
  ]

module _ {K : Type 0} (same : K → K → Bool) where
  -- a value that no row has is not found
  absent : (rows : List (K × Bor (List ℕ))) (value : K)
      → ((k : ℕ) (d : K × Bor (List ℕ)) → k < length rows → same (get_or rows k d).0 value ≡ false)
      → name_of same (map row_of rows) value ≡ None
  unfolding name_of
  absent [] value none = refl
  absent (row ∷ rows) value none = rw (none 0 row (omega arith)) (absent rows value (λ k d lt. none (suc k) d (omega arith)))

  -- the first row that has the value gives the name
  present : (rows : List (K × Bor (List ℕ))) (value : K) (d : K × Bor (List ℕ)) (k : ℕ) → k < length rows → same (get_or rows k d).0 value ≡ true
      → ((j : ℕ) → j < k → same (get_or rows j d).0 value ≡ false)
      → name_of same (map row_of rows) value ≡ Some (get_or rows k d).1.now
  unfolding name_of
  present [] value d k lt here before = absurd (omega arith)
  present (row ∷ rows) value d zero lt here before = rw here refl
  present (row ∷ rows) value d (suc k) lt here before = rw (before 0 (omega arith)) (present rows value d k (omega arith) here (λ j below. before (suc j) (omega arith)))

module _ {K : Type 0} {cmp : K → K → Ordering} {same : K → K → Bool} (total : IsTotalOrder cmp) (ties : (x y : K) → same x y ≡ eq_by_cmp cmp x y)
    (rows : List (K × Bor (List ℕ))) (rise : values_rise cmp rows ≡ true) (value : K) where
  -- a row whose value compares as equal gives the name
  pub found : (k : ℕ) (d : K × Bor (List ℕ)) → k < length rows → HoldsAt (λ row. cmp row.0 value ≡ Equal) rows k
      → name_of same (map row_of rows) value ≡ Some (get_or rows k d).1.now
  found k d in_range here =
      let earlier : (j : ℕ) → j < k → same (get_or rows j d).0 value ≡ false
      = λ j below. ties _ value ∙ ap is_eq (sym (alike_right total _ value _ (here d)) ∙ in_order total rows rise j k d below in_range) in
      present same rows value d k in_range (ties _ value ∙ ap is_eq (here d)) earlier

  -- a place between the smaller and the greater values leaves no row that has the value
  pub not_found : (i : ℕ) → (IsNonDecreasingBy (λ row. ordering_index (cmp row.0 value)) rows → IsPartitionPoint (λ row. cmp row.0 value ≡ Less) (λ row. cmp row.0 value ≡ Greater) rows i)
      → name_of same (map row_of rows) value ≡ None
  not_found i parted =
      let halves = parted (comparisons_rise total rows rise value) in
      absent same rows value (λ k d lt. elim (cases_lt k i) [
        | inl below ↦ ties _ value ∙ ap is_eq (halves.0 k d (omega arith) below)
        | inr above ↦ ties _ value ∙ ap is_eq (halves.1 k d above lt)
      ])
