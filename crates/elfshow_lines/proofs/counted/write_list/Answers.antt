use Rattle.std.proofs.Common.{◌≡◌, ◌+◌, [], Some, length, arith}
use Rattle.std.proofs.lemmas.Grind.{common_steps}
use Rattle.std.proofs.lemmas.List.{length_push}
use Rattle.elfshow_lines.specs.Counted.{numbered_lines}
use Rattle.elfshow_lines.proofs.Listing.{numbered_lines_more}
use Rattle.elfshow_lines.proofs.Adding.{adds_both, lines_written}
use Rattle.elfshow_lines.proofs.counted.write_list.Goals as goal

pub loop-item-preserved : goal.loop-item-preserved
loop-item-preserved g c =
    let before = c.loop-item.invariant in
    let shown = c.loop-item.yielded in
    let item = c.in-Some.item in
    let line = g.L.Line.line c.args.line.now in
    let more = length_push shown item in
    let step = c.in-Some.ensures.goes.on before.4 in
    let place : 0 + length shown ≡ c.loop-item.count = omega (arith, before.0) in
    let text = adds_both (g.W.Write.contents c.args.out.now) (Some []) (g.W.Write.contents c.loop-item.out) c.loop-item.lines _ _ (numbered_lines line 0 shown) (line c.loop-item.count item) before.2 c.add_line.ensures in
    (omega (arith, more, before.0), omega (arith, before.1, step.2), rw (numbered_lines_more line 0 shown item, place) text, step.0, step.1)

pub returns : goal.returns
returns g c =
    let before = c.loop-item.invariant in
    let written = lines_written c.end-2.result _ _ _ _ _ before.2 c.end-2.ensures in
    grind (arith, common_steps, written)
