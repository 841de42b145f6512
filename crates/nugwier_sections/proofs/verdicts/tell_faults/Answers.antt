use Rattle.nugwier_sections.proofs.FaultsSaid.{all_said, fault_more}
use Rattle.nugwier_sections.proofs.verdicts.tell_faults.Goals as goal

pub loop-fault-preserved : goal.loop-fault-preserved
loop-fault-preserved g c = fault_more g.T.Tell.one c.args.faults.now c.loop-fault.fault-index _ c.args.tell.now c.loop-fault.tell _ c.loop-fault-test.true c.loop-fault.invariant c.in_ok-tell_fault.ensures

pub returns : goal.returns
returns g c = all_said g.T.Tell.one c.args.faults.now c.loop-fault.fault-index c.args.tell.now c.loop-fault.tell c.loop-fault-test.false c.loop-fault.invariant
