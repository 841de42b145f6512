use Rattle.std.proofs.Common.{◌≤◌, ◌-◌, [], Some, length}
use Rattle.elf_records.specs.StringTable.{strings_view}
use Rattle.elfshow_lines.specs.Counted.{counted_lines}
use Rattle.elfshow_lines.specs.Strings.{string_line, strings_of}
use Rattle.elfshow_lines.proofs.StringWalk.{text_left}
use Rattle.elfshow_lines.proofs.Adding.{Leads}
use Rattle.elfshow_lines.proofs.strings.write_strings.Given as goal

-- what was written so far, and then what is left, is the text of all strings
abbrev pub invariant-loop-string : goal.invariant-loop-string
invariant-loop-string g l =
    let bytes = strings_view l.fn.strings in
    (l.count ≤ l.offset) × (l.offset ≤ length bytes)
    × Leads (g.W.Write.contents l.initial.out) (Some []) (g.W.Write.contents l.out) l.lines (text_left bytes l.count l.offset) (counted_lines string_line (strings_of bytes))

-- the bytes that are left
abbrev pub decreases-loop-string : goal.decreases-loop-string
decreases-loop-string g l = length (strings_view l.fn.strings) - l.offset
