-- A definition that is put in is the first one that was left for its index.
use Rattle.std.proofs.Common.{◌≡◌, ◌<◌, ℕ, if◌then◌else◌, Some, None, ap, sym, subst, ◌∙◌}
use Rattle.std.specs.List.{find}
use Rattle.std.specs.Option.{option_map, option_or}
use Rattle.elf_parts.specs.gnu_symver.Links.{links_left}
use Rattle.elf_parts.specs.gnu_symver.Records.{ver_def_reads}
use Rattle.elf_parts.specs.declared.gnu_symver.records.VerDef.{VerDef}
use Rattle.elf_c.specs.Tables.{table_of_c}
use Rattle.elf_c.specs.VersionPlaces.{defined_at, defined_held}
use Rattle.elf_c.specs.inner.DefinitionLinks.{has_index, linked_definition}
use Rattle.elf_c.proofs.Definitions.{first_linked}
use Rattle.elf_c.proofs.VersionPlaces.{found_front, nothing_left}
use Rattle.elf_c.proofs.version_places.place_definitions.Goals as goal

pub loop-start-preserved : goal.loop-start-preserved
loop-start-preserved c =
    let t = table_of_c c.args.definitions.now.entries in
    let inv = c.loop-start.invariant in
    let put = c.put_definition in
    let list = links_left ver_def_reads.record_at (λ x. x.vd_next) in
    let old = defined_at t c.loop-start.places in
    let link : ℕ × VerDef = (c.in-Some.start, c.in-Some.definition) in
    let placed = c.placed_definition-placed.result in
    let is_placed : defined_held t placed ≡ Some (linked_definition t link) =
    subst (λ u. defined_held u placed ≡ Some (linked_definition u link)) c.definitions_in-links.ensures.view
    c.placed_definition-placed.ensures in (
      tt,
      tt,
      put.ensures.places ∙ inv.2,
      λ k below.
          found_front (linked_definition t) (has_index k) (old k) (defined_at t put.new.places k)
          link (list c.next.new.self)
          (put.ensures.definitions t k below
          ∙ ap (λ found. option_or (old k) (if has_index k link then found else None)) is_placed)
          ∙ ap (λ left. option_or (old k) (option_map (linked_definition t) (find (has_index k) left)))
          (sym c.in-Some.ensures.steps.0)
          ∙ inv.3 k (subst (λ n. k < n) put.ensures.places below),
      λ k. put.ensures.needs k ∙ inv.4 k,
    )

pub returns-clause-definitions : goal.returns-clause-definitions
returns-clause-definitions c = λ k below.
    let e = c.args.definitions.now in
    let t = table_of_c e.entries in
    let held = defined_at t c.loop-start.places k in
    let before = defined_at t c.args.places.now k in
    sym (nothing_left held)
    ∙ ap (λ left. option_or held (option_map (linked_definition t) (find (has_index k) left)))
    (sym c.in-None.ensures.steps.0.0)
    ∙ c.loop-start.invariant.3 k below
    ∙ ap (λ found. option_or before found) (sym (first_linked e k))
