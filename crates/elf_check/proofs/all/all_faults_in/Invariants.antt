use Rattle.std.proofs.Common.{◌≡◌, ◌-◌, length}
use Rattle.elf.specs.ElfBytes.{view}
use Rattle.elf.specs.ObjectFile.{object_file}
use Rattle.elf_check.specs.AllFaults.{AreFaults, subjects}
use Rattle.elf_check.specs.FaultWalk.{checking}
use Rattle.elf_check.proofs.all.all_faults_in.Given as goal

-- the faults so far are those of the subjects that were checked
abbrev pub invariant-loop-fault : goal.invariant-loop-fault
invariant-loop-fault g l =
    let whole = object_file g.E.EndianParse.little (view l.file) in
    let now = checking g.E.EndianParse.little l.walk in
    (now.file ≡ whole) × (now.all ≡ subjects whole) × AreFaults now.file now.checked l.faults.items

-- the subjects that are left
abbrev pub decreases-loop-fault : goal.decreases-loop-fault
decreases-loop-fault g l =
    let now = checking g.E.EndianParse.little l.walk in
    length now.all - length now.checked
