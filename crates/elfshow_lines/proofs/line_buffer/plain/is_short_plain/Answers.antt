use Rattle.std.proofs.Common.{◌≡◌, ◌-◌, List, ℕ, length, subst, arith}
use Rattle.elfshow_lines.specs.Pieces.{escaped_text}
use Rattle.elfshow_lines.proofs.Blocks.{plain_ends}
use Rattle.elfshow_lines.proofs.line_buffer.plain.is_short_plain.Goals as goal

pub returns-then-is_block_plain : goal.returns-then-is_block_plain
returns-then-is_block_plain c = λ plain.
    plain_ends (length c.args.bytes.now - 8) 8 c.args.bytes.now (omega (arith, c.requires))
    (subst (λ (bytes : List ℕ). escaped_text bytes ≡ bytes) c.in-Some-Some.ensures.cases.same (c.is_block_plain.ensures c.if-is_block_plain.true))
    (subst (λ (bytes : List ℕ). escaped_text bytes ≡ bytes) c.in-Some-Some.ensures'.cases.1.same (c.is_block_plain-then-is_block_plain.ensures plain))
