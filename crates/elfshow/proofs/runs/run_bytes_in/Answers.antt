use Rattle.std.proofs.Common.{arith}
use Rattle.std.proofs.lemmas.Grind.{common_steps}
use Rattle.elfshow.proofs.runs.run_bytes_in.Goals as goal

pub loop-call-preserved : goal.loop-call-preserved
loop-call-preserved g c = grind (arith, common_steps)

pub returns-clause-ok : goal.returns-clause-ok
returns-clause-ok g c = grind (arith, common_steps)
