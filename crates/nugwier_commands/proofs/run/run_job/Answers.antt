use Rattle.std.proofs.Common.{ap}
use Rattle.std.proofs.lemmas.Result.{IfOk-weaker}
use Rattle.nugwier_commands.proofs.Reported.{task_done}
use Rattle.nugwier_report.specs.Texts.{Written}
use Rattle.nugwier_commands.specs.Words.{task_of}
use Rattle.nugwier_commands.proofs.run.run_job.Goals as goal

pub returns : goal.returns
returns g c =
    let before : Written = record { out = g.W.Write.contents c.args.out; err = g.V.Write.contents c.args.err } in
    let ended : Written = record { out = g.W.Write.contents c.end-out.result.1; err = g.V.Write.contents c.end-out.result.2 } in
    let after : Written = record { out = g.W.Write.contents c.flushed-said.new.out; err = g.V.Write.contents c.outcome_of-outcome.new.err } in
    task_done (g.F.Files.known c.args.files.now) before ended after (task_of c.args.job.now) c.run_task-told.result c.flushed-said.result c.outcome_of-outcome.result c.end-out.result.0 _ c.run_task-told.new.run
    c.new-report.ensures c.run_task-told.ensures (c.end-out.ensures.right, c.end-out.ensures.written) c.flushed-said.ensures.told c.flushed-said.ensures.written (IfOk-weaker c.flushed-said.result _ _ (λ s same. ap g.V.Write.contents same) c.outcome_of-outcome.ensures.kept) c.outcome_of-outcome.ensures.outcome
