use Rattle.std.proofs.Common.{◌≡◌, ◌≤◌, length, drop}
use Rattle.std.specs.Fmt.{digits, digits_onto}
use Rattle.elf_c.proofs.texts.write_digits.Given as goal

-- the digits that are left come before those that are written
abbrev pub invariant-loop-start : goal.invariant-loop-start
invariant-loop-start l =
    (l.start ≤ 64) × (length l.room ≡ 64) ×
    (digits_onto l.start l.base l.upper l.rest (drop l.start l.room) ≡ digits l.base l.upper l.number)

abbrev pub decreases-loop-start : goal.decreases-loop-start
decreases-loop-start l = l.start
