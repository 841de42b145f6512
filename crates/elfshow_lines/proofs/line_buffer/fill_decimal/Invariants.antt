use Rattle.std.proofs.Common.{◌≡◌, ◌≤◌, ◌*◌, drop, length, false}
use Rattle.std.specs.Fmt.{digits, digits_onto}
use Rattle.elfshow_lines.proofs.line_buffer.fill_decimal.Given as goal

-- the digits of what is left, before those that are there, are the digits of the number
abbrev pub invariant-loop-pairs : goal.invariant-loop-pairs
invariant-loop-pairs l =
    (l.pairs ≤ 32) × (length l.room ≡ 64)
    × (digits_onto (2 * l.pairs) 10 false l.left (drop (2 * l.pairs) l.room) ≡ digits 10 false l.n)

abbrev pub decreases-loop-pairs : goal.decreases-loop-pairs
decreases-loop-pairs l = l.pairs
