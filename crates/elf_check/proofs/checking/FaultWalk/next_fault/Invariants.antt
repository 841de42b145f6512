use Rattle.std.proofs.Common.{◌+◌, ◌-◌, length}
use Rattle.elf_check.specs.FaultWalk.{checking}
use Rattle.elf_check.proofs.Walking.{Passes}
use Rattle.elf_check.proofs.checking.FaultWalk.next_fault.Given as goal

-- the subjects so far were sound
abbrev pub invariant-loop-stage : goal.invariant-loop-stage
invariant-loop-stage g l =
    Passes (checking g.E.EndianParse.little l.initial.self) (checking g.E.EndianParse.little l.self)

-- the subjects that are left, and the stages
abbrev pub decreases-loop-stage : goal.decreases-loop-stage
decreases-loop-stage g l =
    let now = checking g.E.EndianParse.little l.self in
    (length now.all - length now.checked) + (length l.self.stages.now - l.self.stage)
