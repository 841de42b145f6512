use Rattle.std.proofs.Common.{◌≡◌, length}
use Rattle.nugwier_notes.specs.Attributes.{targets_said, place_view}
use Rattle.nugwier_report.specs.Said.{saying}
use Rattle.nugwier_notes.proofs.attributes.tell_targets.Given as goal

-- what was said so far, and then what is said of the numbers that are left, is the whole
abbrev pub invariant-loop-first : goal.invariant-loop-first
invariant-loop-first g l =
    saying g.T.Tell.one l.tell (targets_said (place_view l.place) l.left l.rest)
    ≡ saying g.T.Tell.one l.initial.tell (targets_said (place_view l.place) l.bytes l.bytes)

abbrev pub decreases-loop-first : goal.decreases-loop-first
decreases-loop-first g l = length l.left
