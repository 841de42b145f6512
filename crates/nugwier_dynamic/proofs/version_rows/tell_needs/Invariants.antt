use Rattle.std.proofs.Common.{◌≡◌}
use Rattle.elf_parts.specs.gnu_symver.Lists.{ver_needs_left}
use Rattle.nugwier_report.specs.Said.{saying}
use Rattle.nugwier_dynamic.specs.VersionRows.{needs_said}
use Rattle.nugwier_dynamic.proofs.version_rows.tell_needs.Given as goal

-- what was said so far, and then what is said of those that are left, is the whole
abbrev pub invariant-loop-need : goal.invariant-loop-need
invariant-loop-need g l =
    (goal.iterator-loop-need g).can_next l.need-iterator × (goal.iterator-loop-need g).is_finite l.need-iterator ×
    (saying g.T.Tell.one l.tell (needs_said l.names.part l.names.strings (ver_needs_left l.need-iterator))
    ≡ saying g.T.Tell.one l.initial.tell (needs_said l.names.part l.names.strings (ver_needs_left l.fn.needs)))
