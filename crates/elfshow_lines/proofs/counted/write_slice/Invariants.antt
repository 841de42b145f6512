use Rattle.std.proofs.Common.{◌≡◌, ◌++◌, [], Some, drop, length}
use Rattle.elfshow_lines.specs.Counted.{end_line, numbered_lines}
use Rattle.elfshow_lines.proofs.Adding.{Leads}
use Rattle.elfshow_lines.proofs.counted.write_slice.Given as goal

-- what was added so far, and then the lines of the items that are left, is the whole text
abbrev pub invariant-loop-item : goal.invariant-loop-item
invariant-loop-item g l =
    let line = g.L.Line.line l.line in
    let end = end_line (length l.items) in
    (l.number ≡ l.item-index)
    × Leads (g.W.Write.contents l.initial.out) (Some []) (g.W.Write.contents l.out) l.lines (numbered_lines line l.item-index (drop l.item-index l.items) ++ end) (numbered_lines line 0 l.items ++ end)
