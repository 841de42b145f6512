use Rattle.std.proofs.Common.{◌≡◌, ◌++◌, drop, map}
use Rattle.std.specs.List.{flat_map}
use Rattle.std.specs.Vec.{vec_items}
use Rattle.elf_libraries.specs.Search.{folders_view, with_hwcaps}
use Rattle.elf_libraries.proofs.search.with_hwcaps.Given as goal

-- with those of the folders that are left, the folders so far are all
abbrev pub invariant-loop-folder : goal.invariant-loop-folder
invariant-loop-folder l =
    let added = with_hwcaps (folders_view l.hwcaps) in
    flat_map added (map vec_items l.folders)
    ≡ map vec_items l.all.items ++ flat_map added (map vec_items (drop l.folder-index l.folders))
