use Rattle.std.proofs.Common.{rules, ◌≡◌, Ok, Err, Some, subst, sym, ap, ◌∙◌}
use Rattle.elfshow_lines.specs.Adding.{Adds}
use Rattle.elf_parts.specs.gnu_symver.Table.{requirement}
use Rattle.elfshow_lines.proofs.VersionTexts.{need_is_shown, need_shown}
use Rattle.elfshow_lines.proofs.versions.add_need.Goals as goal

pub returns-in-Ok-Some : goal.returns-in-Ok-Some
returns-in-Ok-Some g c =
    let contents = g.W.Write.contents in
    let needed = requirement (g.V.SymbolVersions.versions c.args.versions.now) c.args.symbol in
    let is : c.get_requirement.result ≡ Ok (Some c.in-Ok-Some.needed) = search rules in
    let read = need_is_shown needed c.get_requirement.result c.get_requirement.ensures ∙ ap need_shown is in
    subst (λ text. Adds (contents c.args.out.now) c.args.lines.now (contents c.add_needed.new.out) c.add_needed.new.lines text) (sym read) c.add_needed.ensures

pub returns-in-Err : goal.returns-in-Err
returns-in-Err g c =
    let contents = g.W.Write.contents in
    let needed = requirement (g.V.SymbolVersions.versions c.args.versions.now) c.args.symbol in
    let is : c.get_requirement.result ≡ Err c.in-Err.field-0 = search rules in
    let read = need_is_shown needed c.get_requirement.result c.get_requirement.ensures ∙ ap need_shown is in
    subst (λ text. Adds (contents c.args.out.now) c.args.lines.now (contents c.text-in-Err.new.out) c.text-in-Err.new.self text) (sym read) c.text-in-Err.ensures
