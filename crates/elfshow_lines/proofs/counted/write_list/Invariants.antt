use Rattle.std.proofs.Common.{◌≡◌, ◌+◌, ◌≤◌, [], Some, length}
use Rattle.std.specs.Iterator.{size}
use Rattle.elfshow_lines.specs.Adding.{Adds}
use Rattle.elfshow_lines.specs.Counted.{numbered_lines}
use Rattle.elfshow_lines.proofs.counted.write_list.Given as goal

-- what was added so far is the lines of the items so far
abbrev pub invariant-loop-item : goal.invariant-loop-item
invariant-loop-item g l =
    (l.count ≡ length l.yielded)
    × (l.count + size (g.I.Iterator.remaining l.item-iterator) ≤ size (g.I.Iterator.remaining l.fn.items))
    × Adds (g.W.Write.contents l.initial.out) (Some []) (g.W.Write.contents l.out) l.lines (numbered_lines (g.L.Line.line l.line) 0 l.yielded)
    × (goal.iterator-loop-item g).can_next l.item-iterator
    × (goal.iterator-loop-item g).is_finite l.item-iterator
