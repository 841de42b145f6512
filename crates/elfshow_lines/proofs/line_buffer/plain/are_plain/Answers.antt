use Rattle.std.proofs.Common.{◌≡◌, ℕ, ◌-◌, ◌*◌, ◌/◌, List, length, subst, arith}
use Rattle.std.specs.List.{flat_map}
use Rattle.elfshow_lines.specs.Pieces.{escaped_text}
use Rattle.elfshow_lines.proofs.Blocks.{plain_and_rest, plain_from}
use Rattle.elfshow_lines.proofs.line_buffer.plain.are_plain.Goals as goal

pub returns-then-are_blocks_plain : goal.returns-then-are_blocks_plain
returns-then-are_blocks_plain c = λ plain.
    let bytes = c.args.bytes.now in
    plain_and_rest 16 (length bytes / 16) bytes
    (subst (λ (blocks : List (List ℕ)). flat_map escaped_text blocks ≡ flat_map (λ (block : List ℕ). block) blocks) c.as_chunks.ensures.front (c.are_blocks_plain.ensures c.if-are_blocks_plain.true))
    (plain_from (length bytes - 16) (length bytes / 16 * 16) bytes (omega arith)
    (subst (λ (last : List ℕ). escaped_text last ≡ last) c.in-Some.ensures.cases.1.same (c.is_block_plain.ensures plain)))
