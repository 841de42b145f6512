use Rattle.std.proofs.Common.{◌++◌, subst, ap, ◌∙◌}
use Rattle.elf_parts.specs.gnu_symver.Table.{names_left}
use Rattle.elfshow_lines.specs.Versions.{text_shown, version_name, version_names}
use Rattle.elfshow_lines.proofs.VersionTexts.{shown_is_text}
use Rattle.elfshow_lines.proofs.Adding.{Leads, adds_more}
use Rattle.elfshow_lines.proofs.versions.add_version_names.Goals as goal

pub loop-name-preserved : goal.loop-name-preserved
loop-name-preserved g c =
    let contents = g.W.Write.contents in
    let whole = version_names (names_left c.args.names) in
    let others = version_names (names_left c.next.new.self) in
    let step = c.in-Some.ensures.steps in
    let next = ap version_names step.1 ∙ ap (λ text. version_name text ++ others) (shown_is_text step.0 c.in-Some.name step.2) in
    let before = subst (λ text. Leads (contents c.args.out.now) c.args.lines.now (contents c.loop-name.out) c.loop-name.lines text whole) next c.loop-name.invariant.0 in
    (adds_more _ _ _ _ _ _ (version_name (text_shown c.in-Some.name)) others whole before c.add_version_name.ensures, tt, tt)
