use Rattle.std.proofs.Common.{◌≡◌}
use Rattle.std.specs.List.{find}
use Rattle.elf_parts.specs.gnu_symver.Links.{links_left}
use Rattle.elf_parts.specs.gnu_symver.Records.{ver_def_reads}
use Rattle.elf_c.specs.inner.DefinitionLinks.{definition_links, has_index}
use Rattle.elf_c.proofs.versions.first_defined.Given as goal

-- none of the definitions so far has the index
abbrev pub invariant-loop-start : goal.invariant-loop-start
invariant-loop-start l =
    goal.iterator-loop-start.can_next l.start-iterator ×
    goal.iterator-loop-start.is_finite l.start-iterator ×
    (find (has_index l.index) (links_left ver_def_reads.record_at (λ x. x.vd_next) l.start-iterator)
    ≡ find (has_index l.index) (definition_links l.definitions))
