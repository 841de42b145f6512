-- The first row of a value is its name.
use Rattle.std.proofs.Common.{◌≡◌, ℕ, Bool, true, false, List, [], ◌∷◌, Option, Some, None, if◌then◌else◌, refl, ap, ◌∙◌}
use Rattle.std.specs.Borrow.{Bor}
use Rattle.std.specs.List.{find}
use Rattle.std.specs.Option.{option_map}
use Rattle.elf_abi.specs.Names.{name_of}
use Rattle.elf_names.specs.Table.{rows_of}

module _ {K : Type 0} (same : K → K → Bool) (value : K) where
  abbrev name_of_row : Option (K × Bor (List ℕ)) → Option (List ℕ)
  name_of_row row = option_map (λ (row : K × Bor (List ℕ)). row.1.now) row

  -- one more row, by whether it is of the value
  name_of_first : (row : K × Bor (List ℕ)) (rows : List (K × Bor (List ℕ))) (is_same : Bool) → name_of_row (find (λ row. same row.0 value) rows) ≡ name_of same (rows_of rows) value → name_of_row (if is_same then Some row else find (λ row. same row.0 value) rows) ≡ (if is_same then Some row.1.now else name_of same (rows_of rows) value)
  name_of_first row rows true found = refl
  name_of_first row rows false found = found

  name_found : (rows : List (K × Bor (List ℕ))) → name_of_row (find (λ row. same row.0 value) rows) ≡ name_of same (rows_of rows) value
  unfolding name_of
  name_found [] = refl
  name_found (row ∷ rows) = name_of_first row rows (same row.0 value) (name_found rows)

  pub row_named : (rows : List (K × Bor (List ℕ))) (row : Option (Bor (K × Bor (List ℕ)))) → option_map (λ row. row.now) row ≡ find (λ row. same row.0 value) rows → option_map (λ (row : Bor (K × Bor (List ℕ))). row.now.1.now) row ≡ name_of same (rows_of rows) value
  row_named rows (Some row) found = ap name_of_row found ∙ name_found rows
  row_named rows None found = ap name_of_row found ∙ name_found rows
