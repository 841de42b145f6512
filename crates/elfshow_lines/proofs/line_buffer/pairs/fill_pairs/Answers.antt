use Rattle.std.proofs.Common.{◌≡◌, ℕ, ◌*◌, ◌/◌, List, length, take, sym, ap, ◌∙◌, arith}
use Rattle.std.proofs.lemmas.Grind.{common_steps}
use Rattle.std.specs.List.{flat_map}
use Rattle.elfshow_lines.specs.Pieces.{hex_of}
use Rattle.elfshow_lines.proofs.Pairs.{last_block, whole_blocks}
use Rattle.elfshow_lines.proofs.line_buffer.pairs.fill_pairs.Goals as goal

pub returns-then-not-is_empty : goal.returns-then-not-is_empty
returns-then-not-is_empty c =
    let bytes = c.args.bytes.now in
    let room = c.fill_blocks.new.room in
    let front = ap (λ (k : ℕ). take (32 * k) room) (sym c.as_chunks.ensures.front_len) ∙ c.fill_blocks.ensures.front ∙ ap (λ (blocks : List (List ℕ)). flat_map hex_of blocks) c.as_chunks.ensures.front in
    last_block bytes room c.pairs_of_block.result c.in-Some.last.now (length bytes / 16) (c.fill_blocks.ensures.same ∙ c.requires) c.in-Some.ensures.cases.0 (omega arith)
    front c.in-Some.ensures.cases.1.same c.pairs_of_block.ensures

pub returns-else-not-is_empty : goal.returns-else-not-is_empty
returns-else-not-is_empty c =
    let bytes = c.args.bytes.now in
    let room = c.fill_blocks.new.room in
    let front = ap (λ (k : ℕ). take (32 * k) room) (sym c.as_chunks.ensures.front_len) ∙ c.fill_blocks.ensures.front ∙ ap (λ (blocks : List (List ℕ)). flat_map hex_of blocks) c.as_chunks.ensures.front in
    let none = sym c.is_empty.ensures ∙ c.if-not-is_empty.false in
    let back = c.as_chunks.ensures.back_len in
    let whole : length bytes ≡ 16 * (length bytes / 16) = grind (arith, common_steps) in
    whole_blocks bytes room (length bytes / 16) (c.fill_blocks.ensures.same ∙ c.requires) whole front
