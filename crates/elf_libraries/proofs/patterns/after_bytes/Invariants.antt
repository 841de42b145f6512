use Rattle.std.proofs.Common.{◌≡◌, ◌++◌, drop}
use Rattle.std.specs.List.{flat_map}
use Rattle.elf_libraries.specs.Patterns.{after_byte, element_view, rests_view}
use Rattle.elf_libraries.proofs.patterns.after_bytes.Given as goal

-- with those of the rests that are left, those so far are all
abbrev pub invariant-loop-rest : goal.invariant-loop-rest
invariant-loop-rest l =
    let element = element_view l.element in
    flat_map (after_byte element) (rests_view l.rests)
    ≡ rests_view l.all.items ++ flat_map (after_byte element) (rests_view (drop l.rest-index l.rests))
