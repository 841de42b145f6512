use Rattle.std.proofs.Common.{arith}
use Rattle.elfshow_lines.proofs.Pairs.{one_more_block}
use Rattle.elfshow_lines.proofs.line_buffer.pairs.fill_blocks.Goals as goal

pub loop-i-preserved : goal.loop-i-preserved
loop-i-preserved c =
    one_more_block c.loop-i.room c.pairs_of_block.result c.loop-i.i c.args.blocks.now (omega (arith, c.requires, c.loop-i.auto.room)) c.loop-i-test.true
    (c.told-blocks c.loop-i.i c.loop-i-test.true) c.pairs_of_block.ensures c.loop-i.invariant
