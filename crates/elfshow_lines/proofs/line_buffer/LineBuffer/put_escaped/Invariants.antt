use Rattle.std.proofs.Common.{drop}
use Rattle.elfshow_lines.specs.Pieces.{escaped_text}
use Rattle.elfshow_lines.proofs.Adding.{Leads}
use Rattle.elfshow_lines.proofs.line_buffer.LineBuffer.put_escaped.Given as goal

-- what was added so far, and then the text of the bytes that are left, is the text of all bytes
abbrev pub invariant-loop-byte : goal.invariant-loop-byte
invariant-loop-byte g l =
    Leads (g.W.Write.contents l.initial.out) l.initial.self (g.W.Write.contents l.out) l.self
    (escaped_text (drop l.byte-index l.text)) (escaped_text l.text)
