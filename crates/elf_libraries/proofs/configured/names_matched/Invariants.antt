use Rattle.std.proofs.Common.{◌≡◌, ◌++◌, drop, map}
use Rattle.std.specs.Vec.{vec_items}
use Rattle.elf_libraries.specs.Folder.{place_of}
use Rattle.elf_libraries.specs.Configured.{names_matched}
use Rattle.elf_libraries.proofs.configured.names_matched.Given as goal

-- with those of the places that are left, the names so far are all
abbrev pub invariant-loop-place : goal.invariant-loop-place
invariant-loop-place l =
    names_matched l.pattern (map place_of l.places)
    ≡ map vec_items l.names.items ++ names_matched l.pattern (map place_of (drop l.place-index l.places))
