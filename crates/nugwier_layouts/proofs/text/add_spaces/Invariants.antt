use Rattle.std.proofs.Common.{replicate}
use Rattle.elfshow_lines.proofs.Adding.{Leads}
use Rattle.nugwier_layouts.proofs.text.add_spaces.Given as goal

-- what was added so far, and then the spaces that are left, is all
abbrev pub invariant-loop-left : goal.invariant-loop-left
invariant-loop-left g l =
    Leads (g.W.Write.contents l.initial.out) l.initial.lines (g.W.Write.contents l.out) l.lines
    (replicate l.left 32) (replicate l.count 32)

abbrev pub decreases-loop-left : goal.decreases-loop-left
decreases-loop-left g l = l.left
