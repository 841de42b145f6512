-- The layouts of records: the name of each in an object of JSON, and the columns of its row for people.
use Rattle.std.specs.Prelude.{ℕ, Bool, List, Option, map}
use Rattle.std.specs.Borrow.{Bor}
use Rattle.std.specs.Option.{option_copied, option_map}
use Rattle.nugwier_layouts.specs.Text.{Column, columns_of}
use Rattle.nugwier_layouts.specs.declared.text.Shown.{Shown}

-- records without a name, as headings, are for people alone
pub record Layout : Type 0 where
  pub name : Option (List ℕ)
  pub is_heading : Bool
  pub columns : List Column
  -- the text after the last column
  pub end : List ℕ

abbrev pub layout_view : Option (List ℕ) → Bool → List Column → List ℕ → Layout
layout_view name is_heading columns end =
    record { name = name; is_heading = is_heading; columns = columns; end = end }

-- ---- a layout of the program

abbrev pub layout_of : Option (Bor (List ℕ)) × Bool × Bor (List (Bor (List ℕ) × ℕ × Shown)) × Bor (List ℕ) → Layout
layout_of l = layout_view (option_copied l.0) l.1 (columns_of l.2.now) l.3.now

-- ---- a constant of the program

abbrev pub column : (record { now : List ℕ }) × ℕ × Shown → Column
column c = (c.0.now, c.1, c.2)

abbrev pub constant : Option (record { now : List ℕ }) × Bool
    × record { now : List ((record { now : List ℕ }) × ℕ × Shown) } × record { now : List ℕ } → Layout
constant l = layout_view (option_map (λ name. name.now) l.0) l.1 (map column l.2.now) l.3.now
