use Rattle.std.proofs.Common.{◌≤◌, length}
use Rattle.elf_records.specs.inner.Terminated.{NoneFrom}
use Rattle.elf_records.proofs.string_table.count_terminated.Given as goal

abbrev pub invariant-loop-end : goal.invariant-loop-end
invariant-loop-end l = (l.end ≤ length l.bytes) × NoneFrom l.bytes l.end

abbrev pub decreases-loop-end : goal.decreases-loop-end
decreases-loop-end l = l.end
