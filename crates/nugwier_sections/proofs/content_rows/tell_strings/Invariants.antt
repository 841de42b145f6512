use Rattle.std.proofs.Common.{◌≡◌, ◌-◌, ◌≤◌, drop, take}
use Rattle.nugwier_sections.specs.ContentRows.{strings_from, strings_said}
use Rattle.nugwier_report.specs.Said.{saying}
use Rattle.nugwier_sections.proofs.content_rows.tell_strings.Given as goal

-- what was said so far, and then what is said of the string that is read and of the bytes that are left, is the whole
abbrev pub invariant-loop-byte : goal.invariant-loop-byte
invariant-loop-byte g l =
    (l.place ≡ l.byte-index)
    × (l.start ≤ l.place)
    × (saying g.T.Tell.one l.tell (strings_from l.section l.start (take (l.place - l.start) (drop l.start l.bytes)) (drop l.byte-index l.bytes))
    ≡ saying g.T.Tell.one l.initial.tell (strings_said l.section l.bytes))
