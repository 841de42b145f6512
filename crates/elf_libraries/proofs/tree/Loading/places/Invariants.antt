use Rattle.std.proofs.Common.{◌≡◌, take}
use Rattle.elf_libraries.specs.Tree.{places_in}
use Rattle.elf_libraries.proofs.tree.Loading.places.Given as goal

-- the places of the slots so far
abbrev pub invariant-loop-slot : goal.invariant-loop-slot
invariant-loop-slot l = l.places.items ≡ places_in (take l.slot-index l.self.scope.items)
