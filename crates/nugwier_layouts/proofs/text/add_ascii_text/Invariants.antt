use Rattle.std.proofs.Common.{drop}
use Rattle.elfshow_lines.proofs.Adding.{Leads}
use Rattle.nugwier_layouts.specs.Text.{ascii_text}
use Rattle.nugwier_layouts.proofs.text.add_ascii_text.Given as goal

-- what was added so far, and then what is left, is the whole
abbrev pub invariant-loop-byte : goal.invariant-loop-byte
invariant-loop-byte g l =
    Leads (g.W.Write.contents l.initial.out) l.initial.lines (g.W.Write.contents l.out) l.lines
    (ascii_text (drop l.byte-index l.bytes)) (ascii_text l.bytes)
