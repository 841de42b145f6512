use Rattle.std.proofs.Common.{◌≡◌}
use Rattle.elf_parts.specs.gnu_symver.Lists.{ver_def_aux_left}
use Rattle.nugwier_report.specs.Said.{saying}
use Rattle.nugwier_dynamic.specs.VersionRows.{names_said}
use Rattle.nugwier_dynamic.proofs.version_rows.tell_names.Given as goal

-- what was said so far, and then what is said of those that are left, is the whole
abbrev pub invariant-loop-aux : goal.invariant-loop-aux
invariant-loop-aux g l =
    (goal.iterator-loop-aux g).can_next l.aux-iterator × (goal.iterator-loop-aux g).is_finite l.aux-iterator ×
    (saying g.T.Tell.one l.tell (names_said l.names.part l.names.strings l.index (ver_def_aux_left l.aux-iterator))
    ≡ saying g.T.Tell.one l.initial.tell (names_said l.names.part l.names.strings l.index (ver_def_aux_left l.fn.records)))
