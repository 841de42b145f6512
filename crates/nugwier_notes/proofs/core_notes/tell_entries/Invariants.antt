use Rattle.std.proofs.Common.{◌≡◌, length}
use Rattle.nugwier_notes.specs.CoreNotes.{entries_said}
use Rattle.nugwier_report.specs.Said.{saying}
use Rattle.nugwier_notes.proofs.core_notes.tell_entries.Given as goal

-- what was said so far, and then what is said of the entries that are left, is the whole
abbrev pub invariant-loop-first : goal.invariant-loop-first
invariant-loop-first g l =
    saying g.T.Tell.one l.tell (entries_said l.file l.part l.number l.left l.rest)
    ≡ saying g.T.Tell.one l.initial.tell (entries_said l.file l.part l.number l.bytes l.bytes)

abbrev pub decreases-loop-first : goal.decreases-loop-first
decreases-loop-first g l = length l.left
