use Rattle.std.proofs.Common.{◌≡◌, ◌≤◌, drop, length, false}
use Rattle.std.specs.Fmt.{digits, digits_onto}
use Rattle.elfshow_lines.proofs.line_buffer.fill_digits.Given as goal

-- the digits of what is left, before those that are there, are the digits of the number
abbrev pub invariant-loop-start : goal.invariant-loop-start
invariant-loop-start l =
    (l.start ≤ 64) × (length l.room ≡ 64)
    × (digits_onto l.start l.base false l.left (drop l.start l.room) ≡ digits l.base false l.n)

abbrev pub decreases-loop-start : goal.decreases-loop-start
decreases-loop-start l = l.start
