use Rattle.std.proofs.Common.{◌≡◌, ◌-◌, ◌*◌, ◌≤◌, drop, length}
use Rattle.std.specs.Int.{div_ceil}
use Rattle.elfshow_lines.proofs.Adding.{Leads}
use Rattle.nugwier_layouts.specs.Text.{dump, dump_lines}
use Rattle.nugwier_layouts.proofs.text.add_dump.Given as goal

-- the lines so far, and then those that are left, are the whole
abbrev pub invariant-loop-line : goal.invariant-loop-line
invariant-loop-line g l =
    (l.line ≤ l.count)
    × (l.count ≡ div_ceil (length l.bytes) 16)
    × Leads (g.W.Write.contents l.initial.out) l.initial.lines (g.W.Write.contents l.out) l.lines
    (dump_lines l.address (l.count - l.line) (16 * l.line) (drop (16 * l.line) l.bytes)) (dump l.address l.bytes)

abbrev pub decreases-loop-line : goal.decreases-loop-line
decreases-loop-line g l = l.count - l.line
