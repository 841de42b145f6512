use Rattle.std.proofs.Common.{ℕ, List, ap, ◌∙◌, subst}
use Rattle.elfshow_lines.specs.Adding.{Adds}
use Rattle.nugwier_layouts.specs.Json.{string_value}
use Rattle.nugwier_layouts.proofs.JsonStrings.{is_no_text, is_text}
use Rattle.nugwier_layouts.proofs.json.add_text_value.Goals as goal

pub returns-in-Ok : goal.returns-in-Ok
returns-in-Ok g c =
    let contents = g.W.Write.contents in
    let read = c.in-Ok.ensures.cases in
    let same = ap (λ (t : List ℕ). string_value t) read.0 ∙ is_text c.args.bytes.now read.1 in
    subst (λ (text : List ℕ). Adds (contents c.args.out.now) c.args.lines.now (contents c.add_string_value.new.out) c.add_string_value.new.lines text) same c.add_string_value.ensures

pub returns-in-Err : goal.returns-in-Err
returns-in-Err g c =
    let contents = g.W.Write.contents in
    let same = is_no_text c.args.bytes.now c.in-Err.ensures.cases.0 in
    subst (λ (text : List ℕ). Adds (contents c.args.out.now) c.args.lines.now (contents c.add_bytes_value.new.out) c.add_bytes_value.new.lines text) same c.add_bytes_value.ensures
