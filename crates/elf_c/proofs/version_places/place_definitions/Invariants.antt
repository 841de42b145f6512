use Rattle.std.proofs.Common.{◌≡◌, ◌<◌, ℕ, length}
use Rattle.std.specs.List.{find}
use Rattle.std.specs.Option.{option_map, option_or}
use Rattle.elf_parts.specs.gnu_symver.Links.{links_left}
use Rattle.elf_parts.specs.gnu_symver.Records.{ver_def_reads}
use Rattle.elf_c.specs.Tables.{table_of_c}
use Rattle.elf_c.specs.VersionPlaces.{defined_at, need_at}
use Rattle.elf_c.specs.inner.DefinitionLinks.{definition_links, has_index, linked_definition}
use Rattle.elf_c.proofs.version_places.place_definitions.Given as goal

-- what the place of an index holds, or else what is left for it, is what it was at the start; of needs it holds what it
-- held
abbrev pub invariant-loop-start : goal.invariant-loop-start
invariant-loop-start l =
    let t = table_of_c l.definitions.entries in
    goal.iterator-loop-start.can_next l.start-iterator ×
    goal.iterator-loop-start.is_finite l.start-iterator ×
    (length l.places ≡ length l.initial.places) ×
    ((k : ℕ) → k < length l.places →
    option_or (defined_at t l.places k)
    (option_map (linked_definition t)
    (find (has_index k) (links_left ver_def_reads.record_at (λ x. x.vd_next) l.start-iterator)))
    ≡ option_or (defined_at t l.initial.places k)
    (option_map (linked_definition t) (find (has_index k) (definition_links l.definitions)))) ×
    ((k : ℕ) → need_at l.places k ≡ need_at l.initial.places k)
