use Rattle.std.proofs.Common.{◌-◌, length}
use Rattle.elf_records.specs.Endian.{any_is_little}
use Rattle.elf_check.specs.FaultWalk.{checking}
use Rattle.elf_c.specs.File.{file_over}
use Rattle.elf_c.proofs.FaultPlaces.{AreFilled}
use Rattle.elf_c.proofs.check.write_faults.Given as goal

-- the places so far hold the faults of the subjects that were checked
abbrev pub invariant-loop-count : goal.invariant-loop-count
invariant-loop-count l =
    AreFilled (file_over l.fn.file l.fn.bytes) (checking any_is_little l.walk) l.count l.fn.faults l.faults

abbrev pub decreases-loop-count : goal.decreases-loop-count
decreases-loop-count l = length l.initial.faults - l.count
