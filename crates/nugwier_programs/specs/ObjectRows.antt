-- What is said of an object of a program: the program, a library that it loads, or one that was not found.
use Rattle.std.specs.Prelude.{ℕ, ◌==◌, if◌then◌else◌, List, [], ◌∷◌, Option, Some, None, codes}
use Rattle.std.specs.Option.{option_copied}
use Rattle.nugwier_layouts.specs.Members.{Members, number, text}
use Rattle.nugwier_report.specs.Said.{Said, states}
use Rattle.nugwier_programs.specs.declared.object_rows.ListedObject.{ListedObject as Given}
use Rattle.nugwier_layouts.specs.Layouts.{Layout, constant}
use Rattle.nugwier_layouts.specs.declared.layouts.TheConstants as layout

-- the number of its loaders, the name by which it was needed first, the path of its file, and that of the object that
-- needed it first
pub record ListedObject : Type 0 where
  pub depth : ℕ
  pub name : List ℕ
  pub path : Option (List ℕ)
  pub loader : List ℕ

-- the program has no loader
abbrev pub object_layout : ℕ → Option (List ℕ) → Layout
object_layout depth (Some path) = if depth == 0 then constant layout.PROGRAM else constant layout.LIBRARY
object_layout depth None = constant layout.MISSING_LIBRARY

abbrev pub object_members : ListedObject → Members
object_members o =
    (codes "depth", number o.depth)
    ∷ (codes "name", text (Some o.name))
    ∷ (codes "path", text o.path)
    ∷ (codes "loader", text (Some o.loader))
    ∷ []

abbrev pub object_said : ListedObject → List Said
object_said o = states (object_layout o.depth o.path) (object_members o) ∷ []

-- ---- the view of the struct

abbrev pub listed_view : Given → ListedObject
listed_view o =
    record { depth = o.depth; name = o.name.now; path = option_copied o.path; loader = o.loader.now }
