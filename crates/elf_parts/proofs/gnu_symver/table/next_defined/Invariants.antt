use Rattle.std.proofs.Common.{◌≡◌}
use Rattle.elf_parts.specs.gnu_symver.Lists.{ver_defs_left}
use Rattle.elf_parts.specs.gnu_symver.Table.{defined_version}
use Rattle.elf_parts.proofs.gnu_symver.table.next_defined.Given as goal

-- none of the definitions so far has the index
abbrev pub invariant-loop-definition : goal.invariant-loop-definition
invariant-loop-definition g l =
    (goal.iterator-loop-definition g).can_next l.definition-iterator ×
    (goal.iterator-loop-definition g).is_finite l.definition-iterator ×
    (defined_version l.index (ver_defs_left l.definition-iterator)
    ≡ defined_version l.index (ver_defs_left l.fn.definitions))
