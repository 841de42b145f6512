use Rattle.std.proofs.Common.{◌≡◌, ◌+◌, ◌≤◌, length}
use Rattle.std.specs.Iterator.{size}
use Rattle.nugwier_report.specs.Said.{numbered, saying}
use Rattle.nugwier_report.proofs.rows.tell_items.Given as goal

-- what was said so far is what is said of the items so far
abbrev pub invariant-loop-item : goal.invariant-loop-item
invariant-loop-item g l =
    (l.number ≡ length l.yielded)
    × (l.number + size (g.I.Iterator.remaining l.item-iterator) ≤ size (g.I.Iterator.remaining l.fn.items))
    × (l.tell ≡ saying g.T.Tell.one l.initial.tell (numbered (g.R.Row.said l.row) 0 l.yielded))
    × (goal.iterator-loop-item g).can_next l.item-iterator
    × (goal.iterator-loop-item g).is_finite l.item-iterator
