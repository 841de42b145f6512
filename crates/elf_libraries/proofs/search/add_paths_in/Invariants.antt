use Rattle.std.proofs.Common.{◌≡◌, ◌++◌, drop, map}
use Rattle.std.specs.Vec.{vec_items}
use Rattle.elf_libraries.specs.Search.{joined_path}
use Rattle.elf_libraries.proofs.search.add_paths_in.Given as goal

-- with those in the folders that are left, the paths so far are all
abbrev pub invariant-loop-folder : goal.invariant-loop-folder
invariant-loop-folder l =
    map vec_items l.fn.paths.items ++ map (joined_path l.name) (map vec_items l.folders)
    ≡ map vec_items l.paths.items ++ map (joined_path l.name) (map vec_items (drop l.folder-index l.folders))
