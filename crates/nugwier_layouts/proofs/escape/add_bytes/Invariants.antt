use Rattle.std.proofs.Common.{drop}
use Rattle.std.specs.List.{flat_map}
use Rattle.elfshow_lines.proofs.Adding.{Leads}
use Rattle.nugwier_layouts.specs.Escape.{shown_byte}
use Rattle.nugwier_layouts.proofs.escape.add_bytes.Given as goal

-- what was added so far, and then what is left, is the whole
abbrev pub invariant-loop-byte : goal.invariant-loop-byte
invariant-loop-byte g l =
    let text = flat_map shown_byte in
    Leads (g.W.Write.contents l.initial.out) l.initial.lines (g.W.Write.contents l.out) l.lines
    (text (drop l.byte-index l.bytes)) (text l.bytes)
