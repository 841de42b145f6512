use Rattle.std.proofs.Common.{◌≡◌, length}
use Rattle.elf_attributes.specs.Leb128.{after_list}
use Rattle.elf_attributes.proofs.leb128.after_list.Given as goal

-- what is after the numbers that are left is what is after all
abbrev pub invariant-loop-first : goal.invariant-loop-first
invariant-loop-first l = after_list l.left l.rest ≡ after_list l.bytes l.bytes

abbrev pub decreases-loop-first : goal.decreases-loop-first
decreases-loop-first l = length l.left
