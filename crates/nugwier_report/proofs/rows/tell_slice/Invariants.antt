use Rattle.std.proofs.Common.{◌≡◌, drop}
use Rattle.nugwier_report.specs.Said.{numbered, saying}
use Rattle.nugwier_report.proofs.rows.tell_slice.Given as goal

-- what was said so far, and then what is said of the items that are left, is the whole
abbrev pub invariant-loop-item : goal.invariant-loop-item
invariant-loop-item g l =
    let said = g.R.Row.said l.row in
    (l.number ≡ l.item-index)
    × (saying g.T.Tell.one l.tell (numbered said l.item-index (drop l.item-index l.items)) ≡ saying g.T.Tell.one l.initial.tell (numbered said 0 l.items))
