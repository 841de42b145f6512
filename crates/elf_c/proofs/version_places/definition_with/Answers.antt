-- What a walk finds is the first definition with the index.
use Rattle.std.proofs.Common.{rules, ◌≡◌, ℕ, None, Some, ap, refl, sym, subst, ◌∙◌}
use Rattle.std.specs.Option.{option_map}
use Rattle.elf_parts.specs.declared.gnu_symver.records.VerDef.{VerDef}
use Rattle.elf_c.specs.Tables.{table_of_c}
use Rattle.elf_c.specs.VersionPlaces.{defined_held}
use Rattle.elf_c.specs.inner.DefinitionLinks.{linked_definition}
use Rattle.elf_c.proofs.Definitions.{first_linked}
use Rattle.elf_c.proofs.version_places.definition_with.Goals as goal

pub returns-in-Some-first_defined : goal.returns-in-Some-first_defined
returns-in-Some-first_defined c = λ held.
    let e = c.args.definitions.now in
    let placed = c.placed_definition.result in
    let link : ℕ × VerDef = (c.in-Some-first_defined.start, c.in-Some-first_defined.definition) in
    subst (λ t. defined_held t placed ≡ Some (linked_definition t link)) c.definitions_in.ensures.view
    c.placed_definition.ensures
    ∙ ap (option_map (linked_definition (table_of_c e.entries))) c.in-Some-first_defined.ensures
    ∙ sym (first_linked e c.args.index)

pub returns-in-None : goal.returns-in-None
returns-in-None c = λ held.
    let e = c.args.definitions.now in
    let t = table_of_c e.entries in
    let empty : c.default.result.found ≡ 0 = search rules in
    let nothing : defined_held t c.default.result ≡ None = rw empty refl in
    nothing
    ∙ ap (option_map (linked_definition t)) c.in-None.ensures
    ∙ sym (first_linked e c.args.index)
