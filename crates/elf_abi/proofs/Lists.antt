-- A list of names whose values rise names each value once.
use Rattle.std.proofs.Common.{◌≡◌, ℕ, zero, suc, ◌<◌, true, List, [], ◌∷◌, length, get_or, All, Ordering, sym, ap, ◌∙◌, inl, inr, arith}
use Rattle.std.specs.Cmp.{IsTotalOrder}
use Rattle.std.specs.List.{list_all}
use Rattle.std.specs.declared.cmp.Ordering.TheVariants.{Less, Equal}
use Rattle.std.proofs.lemmas.Bool.{and_parts, cases_order}
use Rattle.std.proofs.lemmas.Cmp.{tied_itself}
use Rattle.std.proofs.lemmas.List.{get_or_default}
use Rattle.elf_abi.specs.Names.{Row, NamesEachOnce, values_rise}
use Rattle.elf_abi.proofs.Rows.{in_order}

Less_is_not_Equal : (o : Ordering) → o ≡ Less → o ≡ Equal → ⊥
Less_is_not_Equal o less equal = let both : Less ≡ Equal = sym less ∙ equal in cc

module _ {K : Type 0} {cmp : K → K → Ordering} (total : IsTotalOrder cmp) where
  -- one value does not stand at two places
  not_twice : (rows : List (Row K)) → values_rise cmp rows ≡ true → (value : K) (one other : List ℕ) (i j : ℕ) → i < j → j < length rows
      → get_or rows i (value, one) ≡ (value, one) → get_or rows j (value, other) ≡ (value, other) → ⊥
  not_twice rows rise value one other i j lt in_range here there =
      let first : (get_or rows i (value, one)).0 ≡ value = ap (λ (row : Row K). row.0) here in
      let second : (get_or rows j (value, one)).0 ≡ value = ap (λ (row : Row K). row.0) (get_or_default rows j (value, one) (value, other) in_range ∙ there) in
      let below : cmp (get_or rows i (value, one)).0 (get_or rows j (value, one)).0 ≡ Less = in_order total rows rise i j (value, one) lt in_range in
      Less_is_not_Equal (cmp value value) (rw (first, second) at below) (tied_itself total value)

  names_each_once : (rows : List (Row K)) → values_rise cmp rows ≡ true → NamesEachOnce rows
  names_each_once rows rise value one other (i, i_in, here) (j, j_in, there) = elim (cases_order i j) [
    | inl same ↦ ap (λ (row : Row K). row.1) (sym here ∙ get_or_default rows i (value, one) (value, other) i_in ∙ ap (λ k. get_or rows k (value, other)) same ∙ there)
    | inr (inl lt) ↦ absurd (not_twice rows rise value one other i j lt j_in here there)
    | inr (inr lt) ↦ absurd (not_twice rows rise value other one j i lt i_in there here)
  ]

  -- what the test of every list says of each
  pub all_name_once : (lists : List (List (Row K))) → list_all (values_rise cmp) lists ≡ true → All NamesEachOnce lists
  all_name_once [] rise k d lt = absurd (omega arith)
  all_name_once (rows ∷ lists) rise zero d lt = names_each_once rows (and_parts (values_rise cmp rows) (list_all (values_rise cmp) lists) rise).0
  all_name_once (rows ∷ lists) rise (suc k) d lt = all_name_once lists (and_parts (values_rise cmp rows) (list_all (values_rise cmp) lists) rise).1 k d (omega arith)
