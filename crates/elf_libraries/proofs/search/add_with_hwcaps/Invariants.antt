use Rattle.std.proofs.Common.{◌≡◌, ◌++◌, drop, map}
use Rattle.std.specs.Vec.{vec_items}
use Rattle.elf_libraries.specs.Search.{folders_view, in_hwcap}
use Rattle.elf_libraries.proofs.search.add_with_hwcaps.Given as goal

-- with the subfolders that are left, the folders so far are all
abbrev pub invariant-loop-hwcap : goal.invariant-loop-hwcap
invariant-loop-hwcap l =
    map vec_items l.fn.folders.items ++ map (in_hwcap l.folder) (folders_view l.hwcaps)
    ≡ map vec_items l.folders.items ++ map (in_hwcap l.folder) (folders_view (drop l.hwcap-index l.hwcaps))
