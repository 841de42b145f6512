use Rattle.std.proofs.Common.{◌≡◌, length}
use Rattle.elf_libraries.specs.Patterns.{is_in_after, is_in_set}
use Rattle.elf_libraries.proofs.patterns.is_in_set.Given as goal

-- it is in the set if it is by the bytes that are left
abbrev pub invariant-loop-one : goal.invariant-loop-one
invariant-loop-one l = is_in_after l.later l.left l.byte ≡ is_in_set l.set l.byte

abbrev pub decreases-loop-one : goal.decreases-loop-one
decreases-loop-one l = length l.left
