use Rattle.std.proofs.Common.{◌≡◌, ◌++◌, drop, map}
use Rattle.std.specs.Vec.{vec_items}
use Rattle.elf_libraries.specs.Search.{folders_view}
use Rattle.elf_libraries.proofs.configured.borrowed.Given as goal

-- with those that are left, the folders so far are all
abbrev pub invariant-loop-folder : goal.invariant-loop-folder
invariant-loop-folder l =
    map vec_items l.folders ≡ folders_view l.borrowed.items ++ map vec_items (drop l.folder-index l.folders)
