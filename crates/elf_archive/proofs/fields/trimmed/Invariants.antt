use Rattle.std.proofs.Common.{◌≡◌, ◌<◌, ◌≤◌, ◌==◌, ℕ, true, length, get_or}
use Rattle.elf_archive.proofs.fields.trimmed.Given as goal

-- all bytes from the end on fill the field
abbrev pub invariant-loop-end : goal.invariant-loop-end
invariant-loop-end l = record {
  within : l.end ≤ length l.field;
  others : (k : ℕ) → l.end ≤ k → k < length l.field → (get_or l.field k 0 == l.fill) ≡ true;
}

abbrev pub decreases-loop-end : goal.decreases-loop-end
decreases-loop-end l = l.end
