use Rattle.std.proofs.Common.{◌≡◌, ℕ, List, Option, Some, drop, map, vec_items}
use Rattle.elf_libraries.specs.Search.{joined_path}
use Rattle.elf_libraries.specs.Tree.{Found, first_fitting}
use Rattle.elf_libraries.proofs.tree.first_in.Given as goal

-- the first file in the folders that are left is the first of all
abbrev pub invariant-loop-folder : goal.invariant-loop-folder
invariant-loop-folder g l =
    (opened : List ℕ → Option Found) → g.O.Opener.opened l.opener ≡ Some opened
    → first_fitting opened l.kind (map (joined_path l.name) (map vec_items (drop l.folder-index l.folders)))
    ≡ first_fitting opened l.kind (map (joined_path l.name) (map vec_items l.folders))
