use Rattle.std.proofs.Common.{◌≡◌, List, ℕ, ◌++◌, drop, take}
use Rattle.std.specs.List.{flat_map}
use Rattle.elfshow_lines.specs.Pieces.{escaped_text}
use Rattle.elfshow_lines.proofs.line_buffer.plain.are_blocks_plain.Given as goal

-- the blocks so far, and then the escaped text of the others, are the escaped text of all
abbrev pub invariant-loop-block : goal.invariant-loop-block
invariant-loop-block g l =
    flat_map (λ (block : List ℕ). block) (take l.block-index l.blocks) ++ flat_map escaped_text (drop l.block-index l.blocks)
    ≡ flat_map escaped_text l.blocks
