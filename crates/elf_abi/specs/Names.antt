-- Values and their names as lists of rows, and the result of a look-up in a list.
use Rattle.std.specs.Prelude.{◌≡◌, ℕ, ◌++◌, ◌&&◌, Bool, true, false, List, []}
use Rattle.std.specs.Prelude.{◌∷◌, codes, map, Contains, Option, Some, None, nat_eq, unwrap_or, if◌then◌else◌}
use Rattle.std.specs.Borrow.{Bor}
use Rattle.std.specs.Fmt.{digits}
use Rattle.std.specs.Ordering.{is_lt}
use Rattle.std.specs.declared.cmp.Ordering.{Ordering}

-- a value, and its name
abbrev pub Row : Type 0 → Type 0
Row K = K × List ℕ

-- a value, its name, and what it says in words
abbrev pub Described : Type 0
Described = ℕ × List ℕ × List ℕ

-- the values with their names
abbrev pub names : List Described → List (Row ℕ)
names rows = map (λ (row : Described). (row.0, row.1)) rows

-- the values in words
abbrev pub words : List Described → List (Row ℕ)
words rows = map (λ (row : Described). (row.0, row.2)) rows

-- the name of the value
unfoldable pub name_of : {K : Type 0} → (K → K → Bool) → List (Row K) → K → Option (List ℕ)
name_of same [] value = None
name_of same (row ∷ rows) value = if same row.0 value then Some row.1 else name_of same rows value

-- no value has two names
abbrev pub NamesEachOnce : {K : Type 0} → List (Row K) → Type 0
NamesEachOnce {K} rows =
    (value : K) (one other : List ℕ) → Contains rows (value, one) → Contains rows (value, other) → one ≡ other

-- the prefix, and in parentheses `0x` and the number's lower-case digits, with no zeros before them
abbrev pub number_text : List ℕ → ℕ → List ℕ
number_text prefix value = prefix ++ (codes "(0x" ++ (digits 16 false value ++ codes ")"))

-- the name of the number, or for a number with no name its digits after the prefix
abbrev pub name_or_number : List ℕ → List (Row ℕ) → ℕ → List ℕ
name_or_number prefix rows value = unwrap_or (name_of nat_eq rows value) (number_text prefix value)

-- a row as a table of the program holds it
abbrev pub row_of : {K : Type 0} → K × Bor (List ℕ) → Row K
row_of row = (row.0, row.1.now)

-- the first row, if there is one, has a value above this one
abbrev pub is_before : {K N : Type 0} → (K → K → Ordering) → K → List (K × N) → Bool
is_before cmp value [] = true
is_before cmp value (row ∷ rows) = is_lt (cmp value row.0)

-- each value is below the next
abbrev pub values_rise : {K N : Type 0} → (K → K → Ordering) → List (K × N) → Bool
values_rise cmp [] = true
values_rise cmp (row ∷ rows) = is_before cmp row.0 rows && values_rise cmp rows
