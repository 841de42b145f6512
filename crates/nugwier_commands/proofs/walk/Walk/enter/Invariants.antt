use Rattle.std.proofs.Common.{◌≡◌, ◌++◌, length, map}
use Rattle.nugwier_commands.specs.Walk.{place_below, places_of}
use Rattle.elf_libraries.specs.Folder.{place_of}
use Rattle.nugwier_commands.proofs.walk.Walk.enter.Given as goal

-- the names that are left come before the places
abbrev pub invariant-loop-name : goal.invariant-loop-name
invariant-loop-name l =
    map (place_below l.folder) (map place_of l.names.items) ++ places_of l.self
    ≡ map (place_below l.folder) (map place_of l.initial.names.items) ++ places_of l.initial.self

abbrev pub decreases-loop-name : goal.decreases-loop-name
decreases-loop-name l = length l.names.items
