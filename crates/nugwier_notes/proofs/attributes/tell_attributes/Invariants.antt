use Rattle.std.proofs.Common.{◌≡◌, length}
use Rattle.nugwier_notes.specs.Attributes.{attributes_said, place_view}
use Rattle.nugwier_report.specs.Said.{saying}
use Rattle.nugwier_notes.proofs.attributes.tell_attributes.Given as goal

-- what was said so far, and then what is said of the attributes that are left, is the whole
abbrev pub invariant-loop-first : goal.invariant-loop-first
invariant-loop-first g l =
    saying g.T.Tell.one l.tell (attributes_said (place_view l.place) l.known l.left l.rest)
    ≡ saying g.T.Tell.one l.initial.tell (attributes_said (place_view l.place) l.known l.bytes l.bytes)

abbrev pub decreases-loop-first : goal.decreases-loop-first
decreases-loop-first g l = length l.left
