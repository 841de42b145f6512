use Rattle.std.proofs.Common.{◌≡◌, length}
use Rattle.nugwier_notes.specs.Attributes.{subsections_said}
use Rattle.nugwier_report.specs.Said.{saying}
use Rattle.nugwier_notes.proofs.attributes.tell_subsections.Given as goal

-- what was said so far, and then what is said of the subsections that are left, is the whole
abbrev pub invariant-loop-first : goal.invariant-loop-first
invariant-loop-first g l =
    saying g.T.Tell.one l.tell (subsections_said l.file l.section l.left l.rest)
    ≡ saying g.T.Tell.one l.initial.tell (subsections_said l.file l.section l.bytes l.bytes)

abbrev pub decreases-loop-first : goal.decreases-loop-first
decreases-loop-first g l = length l.left
