-- The symbols of a table, each with its number.
use Rattle.std.proofs.Common.{refl, ◌≡◌, ℕ, ◌+◌, ◌⊎◌, inl, inr, Bool, true, false, List, [], ◌∷◌, ◌++◌, length, Option, Some, None, Result, Ok, Err, ap, subst, sym, ◌∙◌}
use Rattle.std.specs.List.{enumerate_from}
use Rattle.std.specs.Prelude.{OnOk}
use Rattle.elf_parts.specs.gnu_symver.Table.{Versions}
use Rattle.elf_records.specs.Table.{Table}
use Rattle.elf_records.specs.declared.symbol.Symbol.{Symbol}
use Rattle.nugwier_symbols.specs.Symbols.{AreTableSaid, IsByKey, IsOrdered, heading_said, order_key, rows_of, rows_said, versioned_said, whole_said}
use Rattle.nugwier_report.specs.Reading.{fault_said, if_read}
use Rattle.nugwier_report.proofs.Saying.{then_said}
use Rattle.nugwier_report.specs.Said.{IsToldAs, Said, numbered, saying, whole}
use Rattle.nugwier_symbols.specs.SymbolRows.{Manner, all_fields, by_letter, exports_alone, order_of}
use Rattle.nugwier_symbols.specs.declared.symbol_options.SymbolOrder.{SymbolOrder}
use Rattle.nugwier_symbols.specs.declared.symbol_options.SymbolOrder.TheVariants.{Size, Value}
use Rattle.nugwier_report.specs.declared.problem.Fault.{Fault}
use Rattle.nugwier_report.specs.declared.problem.Part.{Part}
use Rattle.nugwier_report.specs.declared.problem.Part.TheVariants.{Versions as VersionPart}

-- what was told in one of several ways, or to one of whom nothing comes, is this if there is no other way
pub only_way : {A : Type 0} (silent : A → Bool) (one : A → Said → A) (IsSaid : List Said → Type 0) (only : List Said) (before after : A) (is_silent : Bool)
    → silent before ≡ is_silent → ((said : List Said) → IsSaid said → said ≡ only) → IsToldAs silent one IsSaid before after
    → (silent before ≡ true → (said : List Said) → after ≡ saying one before said) → after ≡ saying one before only
only_way silent one IsSaid only before after true is same told nothing = nothing is only
only_way silent one IsSaid only before after false is same told nothing =
    let way = told is in way.2 ∙ ap (λ (said : List Said). saying one before said) (same way.0 way.1)

-- all fields are said in the order of the table
pub fields_said : (part : Part) (versions : Result (Option Versions) Fault) (found : Result (Option (Table × List ℕ)) Fault) (said : List Said)
    → AreTableSaid all_fields part versions found said → said ≡ whole_said all_fields part versions found
fields_said part versions (Ok (Some symbols)) said (rows, same, is) =
    is ∙ ap (λ (r : List (ℕ × Symbol)). versioned_said all_fields part versions r symbols.1) same
fields_said part versions (Ok None) said is = is
fields_said part versions (Err fault) said is = is

-- all fields are told in the order of the table
pub in_table_order : {A B C : Type 0} (silent : A → Bool) (one : A → Said → A) (part : Part) (versions : Result (Option Versions) Fault)
    (found : Result (Option (Table × List ℕ)) Fault) (before after : A) (r : Result B C)
    → OnOk r (IsToldAs silent one (AreTableSaid all_fields part versions found) before after)
    → OnOk r (silent before ≡ true → (said : List Said) → after ≡ saying one before said)
    → OnOk r (after ≡ saying one before (whole_said all_fields part versions found))
in_table_order silent one part versions found before after (Ok x) told nothing =
    only_way silent one (AreTableSaid all_fields part versions found) (whole_said all_fields part versions found) before after (silent before) refl (fields_said part versions found) told nothing
in_table_order silent one part versions found before after (Err e) told nothing = tt

-- in an order other than that of the table, they are ordered by a number
pub by_key_ordered : (manner : Manner) (order : SymbolOrder) (all rows : List (ℕ × Symbol)) → order ≡ order_of manner
    → (order ≡ Value) ⊎ (order ≡ Size) → IsByKey (order_key order) all rows → IsOrdered (order_of manner) all rows
by_key_ordered manner order all rows same (inl is) by_key =
    subst (λ (o : SymbolOrder). IsOrdered o all rows) (sym is ∙ same) (subst (λ (o : SymbolOrder). IsByKey (order_key o) all rows) is by_key)
by_key_ordered manner order all rows same (inr is) by_key =
    subst (λ (o : SymbolOrder). IsOrdered o all rows) (sym is ∙ same) (subst (λ (o : SymbolOrder). IsByKey (order_key o) all rows) is by_key)

-- one is above the rows of all fields, and none above others
pub heading_same : (manner : Manner) (part : Part) (all rows : List (ℕ × Symbol)) → IsOrdered (order_of manner) all rows → heading_said manner part (length all) ≡ heading_said manner part (length rows)
heading_same all_fields part all rows same = ap (λ (r : List (ℕ × Symbol)). heading_said all_fields part (length r)) (sym same)
heading_same (by_letter sections names options) part all rows ordered = refl
heading_same (exports_alone functions_only) part all rows ordered = refl

-- in order, the heading and the rows are told after that the versions cannot be read
pub versioned_told : {A B C : Type 0} (one : A → Said → A) (manner : Manner) (part : Part) (found : Result (Option Versions) Fault) (shown : Option Versions)
    (symbols : Table × List ℕ) (strings : List ℕ) (count : ℕ) (old known headed after : A) (r : Result B C)
    → count ≡ length (rows_of symbols.0) → shown ≡ if_read found → strings ≡ symbols.1
    → known ≡ saying one old (fault_said (whole VersionPart) found) → headed ≡ saying one known (heading_said manner part count)
    → OnOk r ((rows : List (ℕ × Symbol)) × IsOrdered (order_of manner) (rows_of symbols.0) rows × (after ≡ saying one headed (rows_said manner part shown rows strings)))
    → OnOk r ((said : List Said) × AreTableSaid manner part found (Ok (Some symbols)) said × (after ≡ saying one old said))
versioned_told one manner part found shown symbols strings count old known headed after (Ok x) counted same strings_same first second (rows, ordered, is) =
    let wrongs = fault_said (whole VersionPart) found in
    let heading = heading_said manner part (length rows) in
    let last = rows_said manner part (if_read found) rows symbols.1 in
    let with_heading : headed ≡ saying one known heading =
    second ∙ ap (λ (n : ℕ). saying one known (heading_said manner part n)) counted ∙ ap (λ (said : List Said). saying one known said) (heading_same manner part (rows_of symbols.0) rows ordered) in
    let with_rows : after ≡ saying one headed last = is ∙ ap (λ (v : Option Versions). saying one headed (rows_said manner part v rows strings)) same
    ∙ ap (λ (s : List ℕ). saying one headed (rows_said manner part (if_read found) rows s)) strings_same in
    (versioned_said manner part found rows symbols.1, (rows, ordered, refl), then_said one old headed after (wrongs ++ heading) last (then_said one old known headed wrongs heading first with_heading) with_rows)
versioned_told one manner part found shown symbols strings count old known headed after (Err e) counted same strings_same first second told = tt

-- what is said of items with their numbers is what is said of them in turn
pub numbered_rows : {X : Type 0} (said : ℕ → X → List Said) (j k : ℕ) (xs : List X)
    → numbered (λ i (one : ℕ × X). said one.0 one.1) j (enumerate_from k xs) ≡ numbered said k xs
numbered_rows said j k [] = refl
numbered_rows said j k (x ∷ xs) = ap (λ (t : List Said). said k x ++ t) (numbered_rows said (j + 1) (k + 1) xs)
