use Rattle.std.proofs.Common.{◌≡◌, ◌++◌, drop, map}
use Rattle.std.specs.List.{flat_map}
use Rattle.std.specs.Vec.{vec_items}
use Rattle.elf_libraries.specs.Search.{object_view, others_view, rpath_folders}
use Rattle.elf_libraries.proofs.search.add_all_rpaths.Given as goal

-- with those of the loaders that are left, the folders so far are all
abbrev pub invariant-loop-loader : goal.invariant-loop-loader
invariant-loop-loader l =
    map vec_items l.fn.folders.items ++ (rpath_folders (others_view l.surroundings) (object_view l.object) ++ flat_map (rpath_folders (others_view l.surroundings)) (map object_view l.loaders))
    ≡ map vec_items l.folders.items ++ flat_map (rpath_folders (others_view l.surroundings)) (map object_view (drop l.loader-index l.loaders))
