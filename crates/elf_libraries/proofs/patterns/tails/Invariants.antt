use Rattle.std.proofs.Common.{◌≡◌, ◌++◌, length}
use Rattle.elf_libraries.specs.Patterns.{rests_view, tails}
use Rattle.elf_libraries.proofs.patterns.tails.Given as goal

-- with those of what is left, the tails so far are all
abbrev pub invariant-loop-others : goal.invariant-loop-others
invariant-loop-others l = tails l.rest ≡ rests_view l.all.items ++ tails l.left

abbrev pub decreases-loop-others : goal.decreases-loop-others
decreases-loop-others l = length l.left
