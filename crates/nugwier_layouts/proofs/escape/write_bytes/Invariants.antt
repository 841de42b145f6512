use Rattle.std.proofs.Common.{drop}
use Rattle.std.specs.List.{flat_map}
use Rattle.nugwier_layouts.specs.Escape.{shown_byte}
use Rattle.nugwier_layouts.proofs.Writing.{Writes}
use Rattle.nugwier_layouts.proofs.escape.write_bytes.Given as goal

-- what was written so far, and then the bytes that are left
abbrev pub invariant-loop-byte : goal.invariant-loop-byte
invariant-loop-byte g l =
    let text = flat_map shown_byte in
    Writes g.W.Write.write_str_gives l.initial.f (text l.bytes) (text (drop l.byte-index l.bytes)) l.f
