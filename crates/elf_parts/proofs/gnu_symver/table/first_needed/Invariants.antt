use Rattle.std.proofs.Common.{◌≡◌}
use Rattle.elf_parts.specs.gnu_symver.Lists.{ver_needs_left}
use Rattle.elf_parts.specs.gnu_symver.Table.{needed_version}
use Rattle.elf_parts.proofs.gnu_symver.table.first_needed.Given as goal

-- none of the needs so far has a version with the index
abbrev pub invariant-loop-need : goal.invariant-loop-need
invariant-loop-need g l =
    (goal.iterator-loop-need g).can_next l.need-iterator ×
    (goal.iterator-loop-need g).is_finite l.need-iterator ×
    (needed_version l.index (ver_needs_left l.need-iterator) ≡ needed_version l.index (ver_needs_left l.fn.needs))
