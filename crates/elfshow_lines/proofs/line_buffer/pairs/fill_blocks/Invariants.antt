use Rattle.std.proofs.Common.{◌≡◌, ◌*◌, take}
use Rattle.std.specs.List.{flat_map}
use Rattle.elfshow_lines.specs.Pieces.{hex_of}
use Rattle.elfshow_lines.proofs.line_buffer.pairs.fill_blocks.Given as goal

-- the front of the room has the digits of the blocks so far
abbrev pub invariant-loop-i : goal.invariant-loop-i
invariant-loop-i l = take (32 * l.i) l.room ≡ flat_map hex_of (take l.i l.blocks)
