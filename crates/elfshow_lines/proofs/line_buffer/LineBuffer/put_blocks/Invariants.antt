use Rattle.std.proofs.Common.{drop}
use Rattle.std.specs.List.{flat_map}
use Rattle.elfshow_lines.specs.Pieces.{hex_of}
use Rattle.elfshow_lines.proofs.Adding.{Leads}
use Rattle.elfshow_lines.proofs.line_buffer.LineBuffer.put_blocks.Given as goal

-- what was added so far, and then the digits of the blocks that are left, is the digits of all blocks
abbrev pub invariant-loop-block : goal.invariant-loop-block
invariant-loop-block g l =
    Leads (g.W.Write.contents l.initial.out) l.initial.self (g.W.Write.contents l.out) l.self
    (flat_map hex_of (drop l.block-index l.blocks)) (flat_map hex_of l.blocks)
