use Rattle.std.proofs.Common.{◌≡◌, ℕ, ◌/◌, List, ◌++◌, length, subst}
use Rattle.std.specs.List.{flat_map}
use Rattle.elfshow_lines.specs.Pieces.{hex_of}
use Rattle.elfshow_lines.specs.Adding.{Adds}
use Rattle.elfshow_lines.proofs.Adding.{adds_both}
use Rattle.elfshow_lines.proofs.Blocks.{digits_and_rest}
use Rattle.elfshow_lines.proofs.line_buffer.LineBuffer.put_many_pairs.Goals as goal

pub returns : goal.returns
returns g c =
    let contents = g.W.Write.contents in
    let bytes = c.args.bytes.now in
    let blocks = flat_map hex_of c.as_chunks.result.0.now in
    let rest = hex_of c.as_chunks.result.1.now in
    let whole : blocks ++ rest ≡ hex_of bytes = rw (c.as_chunks.ensures.front, c.as_chunks.ensures.back) (digits_and_rest 16 (length bytes / 16) bytes) in
    let all = adds_both (contents c.args.out.now) c.args.self.now (contents c.put_blocks.new.out) c.put_blocks.new.self (contents c.put_bytes.new.out) c.put_bytes.new.self blocks rest c.put_blocks.ensures c.put_bytes.ensures in
    subst (λ (text : List ℕ). Adds (contents c.args.out.now) c.args.self.now (contents c.put_bytes.new.out) c.put_bytes.new.self text) whole all
