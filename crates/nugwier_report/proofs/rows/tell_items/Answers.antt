use Rattle.std.proofs.Common.{arith}
use Rattle.std.proofs.lemmas.List.{length_push}
use Rattle.nugwier_report.proofs.Listing.{said_more}
use Rattle.nugwier_report.proofs.rows.tell_items.Goals as goal

pub loop-item-preserved : goal.loop-item-preserved
loop-item-preserved g c =
    let before = c.loop-item.invariant in
    let shown = c.loop-item.yielded in
    let item = c.in-Some.item in
    let more = length_push shown item in
    let step = c.in-Some.ensures.goes.on before.4 in
    (omega (arith, more, before.0), omega (arith, before.1, step.2), said_more g.T.Tell.one (g.R.Row.said c.args.row.now) c.loop-item.number shown item _ _ _ before.0 before.2 c.in_ok-tell.ensures, step.0, step.1)
