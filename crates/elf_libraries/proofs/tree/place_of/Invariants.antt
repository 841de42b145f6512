use Rattle.std.proofs.Common.{◌≡◌, drop, map}
use Rattle.elf_libraries.specs.Tree.{entry_view, place_of}
use Rattle.elf_libraries.proofs.tree.place_of.Given as goal

-- no object so far has the name, or is the file
abbrev pub invariant-loop-place : goal.invariant-loop-place
invariant-loop-place l =
    place_of l.place l.name l.identity (map entry_view (drop l.place l.objects))
    ≡ place_of 0 l.name l.identity (map entry_view l.objects)
