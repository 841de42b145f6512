use Rattle.std.proofs.Common.{◌≡◌, ◌++◌, map}
use Rattle.elf_libraries.specs.Search.{object_view}
use Rattle.elf_libraries.specs.Tree.{entry_view, loader_places, loaders_at, searching_at}
use Rattle.elf_libraries.proofs.tree.loaders_at.Given as goal

-- with the loaders of the last one, those so far are all
abbrev pub invariant-loop-left : goal.invariant-loop-left
invariant-loop-left l =
    let objects = map entry_view l.objects in
    map object_view l.loaders.items ++ map (searching_at objects) (loader_places l.left objects l.at) ≡ loaders_at objects l.place

abbrev pub decreases-loop-left : goal.decreases-loop-left
decreases-loop-left l = l.left
