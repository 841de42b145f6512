use Rattle.std.proofs.Common.{◌≡◌, ◌*◌, List, ℕ, drop, take, ap, subst, ◌∙◌, arith}
use Rattle.std.specs.Hash.DefaultHasher.{wrapping_add}
use Rattle.elfshow_lines.proofs.Adding.{adds_more}
use Rattle.elfshow_lines.specs.Adding.{Adds}
use Rattle.nugwier_layouts.proofs.Dump.{next_line}
use Rattle.nugwier_layouts.specs.Text.{dump, dump_line}
use Rattle.nugwier_layouts.proofs.text.add_dump.Goals as goal

pub loop-line-preserved : goal.loop-line-preserved
loop-line-preserved g c =
    let contents = g.W.Write.contents in
    let line = c.loop-line.line in
    let all = c.args.bytes.now in
    let address = wrapping_add c.args.address (16 * line) in
    let before = c.loop-line.invariant in
    let part : c.first_of-part.result.now ≡ take 16 (drop (16 * line) all) = c.first_of-part.ensures ∙ ap (λ (t : List ℕ). take 16 t) c.rest_of.ensures in
    let added = subst (λ (t : List ℕ). Adds (contents c.loop-line.out) c.loop-line.lines (contents c.add_line.new.out) c.add_line.new.lines (dump_line address t)) part c.add_line.ensures in (
      omega (arith, c.loop-line-test.true),
      before.1,
      adds_more (contents c.args.out.now) c.args.lines.now (contents c.loop-line.out) c.loop-line.lines (contents c.add_line.new.out) c.add_line.new.lines (dump_line address (take 16 (drop (16 * line) all))) _ (dump c.args.address all)
          (rw (next_line c.args.address c.div_ceil-count.result line all c.loop-line-test.true) before.2) added,
    )
