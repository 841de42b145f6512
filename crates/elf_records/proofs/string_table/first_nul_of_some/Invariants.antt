use Rattle.std.proofs.Common.{◌-◌, ◌≤◌, length}
use Rattle.elf_records.proofs.Nuls.{NoneBefore}
use Rattle.elf_records.proofs.string_table.first_nul_of_some.Given as goal

abbrev pub invariant-loop-start : goal.invariant-loop-start
invariant-loop-start l = (l.start ≤ length l.bytes) × NoneBefore l.bytes l.start

abbrev pub decreases-loop-start : goal.decreases-loop-start
decreases-loop-start l = length l.bytes - l.start
