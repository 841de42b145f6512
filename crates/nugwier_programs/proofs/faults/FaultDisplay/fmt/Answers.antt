use Rattle.nugwier_programs.proofs.faults.FaultDisplay.fmt.Goals as goal

pub returns-in-UnknownVersion-clause-writes : goal.returns-in-UnknownVersion-clause-writes
returns-in-UnknownVersion-clause-writes g c = rw c.in-UnknownVersion.is c.write-in-UnknownVersion.ensures.writes
