-- The libraries of dynamic entries, from an entry on.
use Rattle.std.proofs.Common.{◌≡◌, ◌≤◌, ℕ, ◌+◌, Bool, true, false, not, cond, List, [], ◌∷◌, drop, length, Some, ap, ◌∙◌}
use Rattle.std.proofs.lemmas.List.{drop_all}
use Rattle.std.proofs.lemmas.List.Sums.{take_while-cons}
use Rattle.std.specs.List.{filter, slice_get, take_while}
use Rattle.elf_abi.specs.Values.{dt_null}
use Rattle.elf_records.specs.Dynamic.{dyn_reads, has_tag}
use Rattle.elf_records.specs.Table.{Table, table_items}
use Rattle.elf_records.specs.declared.dynamic.Dyn.{Dyn}
use Rattle.elf_check.proofs.Relocated.{drop_here}
use Rattle.elf_linking.specs.Needed.{is_library}
use Rattle.elf_c.specs.DynamicNames.{libraries_left}

abbrev is_entry : Dyn → Bool
is_entry entry = not (has_tag dt_null entry)

module _ (entries : Table) (n : ℕ) where
  abbrev items : List Dyn
  items = table_items dyn_reads entries

  abbrev later : List Dyn
  later = take_while is_entry (drop (n + 1) items)

  step : (entry : Dyn) → slice_get items n ≡ Some entry → libraries_left entries n ≡ filter is_library (cond (not (has_tag dt_null entry)) (entry ∷ later) [])
  step entry here =
      ap (λ (xs : List Dyn). filter is_library (take_while is_entry xs)) (drop_here items n entry here)
      ∙ ap (filter is_library) (take_while-cons is_entry entry (drop (n + 1) items))

  step_past_null : (entry : Dyn) → slice_get items n ≡ Some entry → has_tag dt_null entry ≡ false → libraries_left entries n ≡ cond (is_library entry) (entry ∷ libraries_left entries (n + 1)) (libraries_left entries (n + 1))
  step_past_null entry here null =
      step entry here ∙ ap (λ (b : Bool). filter is_library (cond (not b) (entry ∷ later) [])) null

  -- past the last entry, and at the one that ends them
  pub none_past : length items ≤ n → libraries_left entries n ≡ []
  none_past past = ap (λ (xs : List Dyn). filter is_library (take_while is_entry xs)) (drop_all n items past)

  pub none_at : (entry : Dyn) → slice_get items n ≡ Some entry → has_tag dt_null entry ≡ true → libraries_left entries n ≡ []
  none_at entry here null =
      step entry here ∙ ap (λ (b : Bool). filter is_library (cond (not b) (entry ∷ later) [])) null

  -- at the entry of a library, and at any other
  pub one_at : (entry : Dyn) → slice_get items n ≡ Some entry → has_tag dt_null entry ≡ false → is_library entry ≡ true → libraries_left entries n ≡ entry ∷ libraries_left entries (n + 1)
  one_at entry here null library =
      step_past_null entry here null ∙ ap (λ (b : Bool). cond b (entry ∷ libraries_left entries (n + 1)) (libraries_left entries (n + 1))) library

  pub other_at : (entry : Dyn) → slice_get items n ≡ Some entry → has_tag dt_null entry ≡ false → is_library entry ≡ false → libraries_left entries n ≡ libraries_left entries (n + 1)
  other_at entry here null library =
      step_past_null entry here null ∙ ap (λ (b : Bool). cond b (entry ∷ libraries_left entries (n + 1)) (libraries_left entries (n + 1))) library
