-- The names by which libraries are found among the objects, and the files that these are, as sets.
use Rattle.std.specs.Prelude.{◌≡◌, ℕ, ◌||◌, Bool, false, List, Option, Some, None}
use Rattle.std.specs.BTreeSet.{contains_by}
use Rattle.std.specs.Cmp.Lexicographic.{slice_cmp}
use Rattle.std.specs.Ordering.{nat_cmp, ordering_then}
use Rattle.std.specs.Vec.{vec_items}
use Rattle.elf_libraries.specs.Tree.{Entry, is_loaded}
use Rattle.elf_libraries.specs.declared.tree.Identity.{Identity}
use Rattle.elf_libraries.specs.declared.tree.names.LoadedNames.{LoadedNames}

abbrev pub has_name : LoadedNames → List ℕ → Bool
has_name names name = contains_by (λ key. slice_cmp nat_cmp name (vec_items key)) names.set

abbrev pub has_file : LoadedNames → Option Identity → Bool
has_file names None = false
has_file names (Some identity) =
    contains_by (λ key. ordering_then (nat_cmp identity.device key.0) (nat_cmp identity.inode key.1)) names.files

abbrev pub has_object : LoadedNames → List ℕ → Option Identity → Bool
has_object names name identity = has_name names name || has_file names identity

-- the sets have the names and the files of these objects
abbrev pub AreNamesOf : LoadedNames → List Entry → Type 0
AreNamesOf names objects =
    (name : List ℕ) (identity : Option Identity) → has_object names name identity ≡ is_loaded name identity objects
