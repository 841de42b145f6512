use Rattle.std.proofs.Common.{◌≡◌, ◌++◌, drop, filter, map}
use Rattle.std.specs.Vec.{vec_items}
use Rattle.elf_libraries.specs.Search.{folders_view, is_folder_outside}
use Rattle.elf_libraries.proofs.search.add_all_outside.Given as goal

-- with those of the folders that are left, the folders so far are all
abbrev pub invariant-loop-folder : goal.invariant-loop-folder
invariant-loop-folder l =
    let outside = is_folder_outside (folders_view l.excluded) in
    map vec_items l.fn.outside.items ++ filter outside (folders_view l.folders)
    ≡ map vec_items l.outside.items ++ filter outside (folders_view (drop l.folder-index l.folders))
