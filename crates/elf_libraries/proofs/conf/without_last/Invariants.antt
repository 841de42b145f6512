use Rattle.std.proofs.Common.{◌≡◌, ◌<◌, ◌≤◌, ℕ, true, length, get_or}
use Rattle.elf_libraries.specs.Conf.{is_in}
use Rattle.elf_libraries.proofs.conf.without_last.Given as goal

-- all bytes from the end on are in the set
abbrev pub invariant-loop-end : goal.invariant-loop-end
invariant-loop-end l = record {
  within : l.end ≤ length l.bytes;
  others : (k : ℕ) → l.end ≤ k → k < length l.bytes → is_in l.set (get_or l.bytes k 0) ≡ true;
}

abbrev pub decreases-loop-end : goal.decreases-loop-end
decreases-loop-end l = l.end
