use Rattle.std.proofs.lemmas.Bool.{ne_eqb}
use Rattle.elfshow_lines.proofs.Adding.{adds_both}
use Rattle.nugwier_layouts.proofs.text.add_flags.Goals as goal

pub returns-else-n-eq0 : goal.returns-else-n-eq0
returns-else-n-eq0 g c =
    let contents = g.W.Write.contents in
    rw (ne_eqb c.args.n 0 c.if-n-eq0.false)
    (adds_both (contents c.args.out.now) c.args.lines.now (contents c.add_letters.new.out) c.add_letters.new.lines (contents c.add_others.new.out) c.add_others.new.lines _ _ c.add_letters.ensures c.add_others.ensures)
