use Rattle.std.proofs.Common.{◌≡◌, ◌∷◌, [], drop}
use Rattle.elf_libraries.specs.Patterns.{rests_after, rests_view}
use Rattle.elf_libraries.proofs.patterns.rests_after.Given as goal

-- the rests so far, after what is left of the pattern
abbrev pub invariant-loop-place : goal.invariant-loop-place
invariant-loop-place l =
    rests_after 0 l.pattern (l.name ∷ []) ≡ rests_after l.skip (drop l.place l.pattern) (rests_view l.rests.items)
