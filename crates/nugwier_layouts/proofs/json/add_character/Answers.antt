use Rattle.std.proofs.Common.{ℕ, List, sym, ◌∙◌, subst}
use Rattle.elfshow_lines.specs.Adding.{Adds}
use Rattle.nugwier_layouts.proofs.JsonStrings.{spelled_escape, spelled_itself}
use Rattle.nugwier_layouts.proofs.json.add_character.Goals as goal

pub returns-then-stands_for_itself : goal.returns-then-stands_for_itself
returns-then-stands_for_itself g c =
    let contents = g.W.Write.contents in
    let same = c.encode_utf8.ensures.value ∙ spelled_itself c.args.character (sym c.stands_for_itself.ensures ∙ c.if-stands_for_itself.true) in
    subst (λ (text : List ℕ). Adds (contents c.args.out.now) c.args.lines.now (contents c.text.new.out) c.text.new.self text) same c.text.ensures

pub returns-else-stands_for_itself : goal.returns-else-stands_for_itself
returns-else-stands_for_itself g c =
    let contents = g.W.Write.contents in
    let same = spelled_escape c.args.character (sym c.stands_for_itself.ensures ∙ c.if-stands_for_itself.false) in
    subst (λ (text : List ℕ). Adds (contents c.args.out.now) c.args.lines.now (contents c.add_escape.new.out) c.add_escape.new.lines text) same c.add_escape.ensures
