use Rattle.std.proofs.Common.{drop}
use Rattle.elfshow_lines.specs.Pieces.{hex_of}
use Rattle.elfshow_lines.proofs.Adding.{Leads}
use Rattle.elfshow_lines.proofs.line_buffer.LineBuffer.put_bytes.Given as goal

-- what was added so far, and then the digits of the bytes that are left, is the digits of all bytes
abbrev pub invariant-loop-byte : goal.invariant-loop-byte
invariant-loop-byte g l =
    Leads (g.W.Write.contents l.initial.out) l.initial.self (g.W.Write.contents l.out) l.self
    (hex_of (drop l.byte-index l.bytes)) (hex_of l.bytes)
