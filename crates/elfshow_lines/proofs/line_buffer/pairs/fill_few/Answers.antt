use Rattle.std.proofs.Common.{drop, length, ◌∙◌}
use Rattle.std.specs.Prelude.{replicate}
use Rattle.elfshow_lines.proofs.Pairs.{few_digits}
use Rattle.elfshow_lines.proofs.line_buffer.pairs.fill_few.Goals as goal

pub returns : goal.returns
returns c =
    c.copy_from_slice-2.ensures.after
    ∙ few_digits c.args.bytes.now c.copy_from_slice.new.self (drop (length c.args.bytes.now) (replicate 16 0)) c.pairs_of_block.result c.copy_from_slice.ensures.after c.pairs_of_block.ensures
