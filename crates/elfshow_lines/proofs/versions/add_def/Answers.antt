use Rattle.std.proofs.Common.{rules, ◌≡◌, Ok, Err, Some, None, subst, sym, ap, ◌∙◌}
use Rattle.std.specs.Option.{option_map}
use Rattle.elf_records.specs.Number.{ok_map}
use Rattle.elf_parts.specs.gnu_symver.Table.{definition, definition_view}
use Rattle.elfshow_lines.specs.Adding.{Adds}
use Rattle.elfshow_lines.specs.Versions.{def_field}
use Rattle.elfshow_lines.proofs.versions.add_def.Goals as goal

pub returns-in-Ok-Some : goal.returns-in-Ok-Some
returns-in-Ok-Some g c =
    let contents = g.W.Write.contents in
    let is : c.get_definition.result ≡ Ok (Some c.in-Ok-Some.found) = search rules in
    let read = ap def_field (sym c.get_definition.ensures.value ∙ ap (λ found. ok_map (option_map definition_view) found) is) in
    subst (λ text. Adds (contents c.args.out.now) c.args.lines.now (contents c.add_found_def.new.out) c.add_found_def.new.lines text) (sym read) c.add_found_def.ensures
