use Rattle.std.proofs.Common.{◌≡◌}
use Rattle.elf_parts.specs.gnu_symver.Lists.{ver_defs_left}
use Rattle.nugwier_report.specs.Said.{saying}
use Rattle.nugwier_dynamic.specs.VersionRows.{definitions_said}
use Rattle.nugwier_dynamic.proofs.version_rows.tell_definitions.Given as goal

-- what was said so far, and then what is said of those that are left, is the whole
abbrev pub invariant-loop-definition : goal.invariant-loop-definition
invariant-loop-definition g l =
    (goal.iterator-loop-definition g).can_next l.definition-iterator × (goal.iterator-loop-definition g).is_finite l.definition-iterator ×
    (saying g.T.Tell.one l.tell (definitions_said l.names.part l.names.strings (ver_defs_left l.definition-iterator))
    ≡ saying g.T.Tell.one l.initial.tell (definitions_said l.names.part l.names.strings (ver_defs_left l.fn.definitions)))
