use Rattle.nugwier_sections.proofs.FaultsSaid.{Goes}
use Rattle.nugwier_sections.proofs.verdicts.tell_faults.Given as goal

-- what was said so far, and then what is said of the faults that are left, is the whole
abbrev pub invariant-loop-fault : goal.invariant-loop-fault
invariant-loop-fault g l = Goes g.T.Tell.one l.faults l.fault-index l.initial.tell l.tell
