-- A definition has no more names than its count of two bytes says.
use Rattle.std.proofs.Common.{◌≡◌, ap, sym, ◌∙◌, length, arith}
use Rattle.std.proofs.lemmas.List.{length-map}
use Rattle.elf_parts.specs.gnu_symver.Links.{links_view}
use Rattle.elf_parts.specs.gnu_symver.Lists.{ver_def_aux_left}
use Rattle.elf_parts.specs.gnu_symver.Table.{Definition, names_left}
use Rattle.elf_parts.proofs.Versions.{defined_few}
use Rattle.elf_parts.proofs.gnu_symver.table.placed.definition_by_places.Goals as goal

pub returns-clause-few : goal.returns-clause-few
returns-clause-few g c =
    let links = c.in-Some-find_defined.first.links in
    let d = c.in-Some-next_defined.definition in
    let names = c.in-Some-next_defined.names in
    let few =
    defined_few c.index-2.result (links_view links) links.count links.offset (d, ver_def_aux_left names)
    (sym c.in-Some-next_defined.ensures) in
    let same : length (names_left c.read_definition.result.names) ≡ length (ver_def_aux_left names) =
    ap (λ (view : Definition). length view.names) c.read_definition.ensures.value
    ∙ length-map (ver_def_aux_left names) _ in
    omega (arith, few, same, c.read_definition.ensures.count)
