-- Paths, each once, and a set of the same.
use Rattle.std.specs.Prelude.{◌≡◌, ℕ, List}
use Rattle.std.specs.BTreeSet.{BTreeSet, contains}
use Rattle.std.specs.Cmp.Lexicographic.{slice_cmp}
use Rattle.std.specs.Global.{Vec}
use Rattle.std.specs.List.{list_any}
use Rattle.std.specs.Ordering.{nat_cmp}
use Rattle.std.specs.Str.{bytes_eq}
use Rattle.std.specs.declared.cmp.Ordering.{Ordering}
use Rattle.std.specs.Vec.{vec_items}

abbrev pub by_bytes : Vec ℕ → Vec ℕ → Ordering
by_bytes one other = slice_cmp nat_cmp (vec_items one) (vec_items other)

-- the set has these paths
abbrev pub IsSetOf : List (List ℕ) → BTreeSet (Vec ℕ) → Type 0
IsSetOf paths set = (path : Vec ℕ) → contains by_bytes set path ≡ list_any (bytes_eq (vec_items path)) paths
