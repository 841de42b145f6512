use Rattle.std.proofs.Common.{◌≡◌, length}
use Rattle.elf_libraries.specs.Conf.{without_first}
use Rattle.elf_libraries.proofs.conf.without_first.Given as goal

abbrev pub invariant-loop-first : goal.invariant-loop-first
invariant-loop-first l = without_first l.set l.left ≡ without_first l.set l.bytes

abbrev pub decreases-loop-first : goal.decreases-loop-first
decreases-loop-first l = length l.left
