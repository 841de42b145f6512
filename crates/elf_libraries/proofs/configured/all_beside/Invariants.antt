use Rattle.std.proofs.Common.{◌≡◌, ◌++◌, drop, map}
use Rattle.std.specs.Vec.{vec_items}
use Rattle.elf_libraries.specs.Configured.{beside}
use Rattle.elf_libraries.proofs.configured.all_beside.Given as goal

-- with those of the names that are left, the paths so far are all
abbrev pub invariant-loop-name : goal.invariant-loop-name
invariant-loop-name l =
    map (beside l.path) (map vec_items l.names)
    ≡ map vec_items l.paths.items ++ map (beside l.path) (map vec_items (drop l.name-index l.names))
