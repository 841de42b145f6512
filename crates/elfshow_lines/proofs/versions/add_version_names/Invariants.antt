use Rattle.elf_parts.specs.gnu_symver.Table.{names_left}
use Rattle.elfshow_lines.specs.Versions.{version_names}
use Rattle.elfshow_lines.proofs.Adding.{Leads}
use Rattle.elfshow_lines.proofs.versions.add_version_names.Given as goal

-- what was written so far, and then the names that are left, is the text of all names
abbrev pub invariant-loop-name : goal.invariant-loop-name
invariant-loop-name g l =
    Leads (g.W.Write.contents l.initial.out) l.initial.lines (g.W.Write.contents l.out) l.lines (version_names (names_left l.name-iterator)) (version_names (names_left l.fn.names))
    × (goal.iterator-loop-name g).can_next l.name-iterator
    × (goal.iterator-loop-name g).is_finite l.name-iterator
