use Rattle.std.proofs.Common.{rules, arith, ◌≤◌, length, length-take, length-drop}
use Rattle.elf_reading.proofs.Filling.{IsFilled-more}
use borrow.Rule.Slice.PartMut.{same_len_mid}
use Rattle.elf_reading.proofs.reads.fill.Goals as goal

pub loop-done-preserved : goal.loop-done-preserved
loop-done-preserved g c =
    let part = c.read.auto.buf in
    let within : c.in_ok-n.n ≤ length c.read.new.buf = rw part c.in_ok-n.ensures.count in
    record {
      in_range = rw (same_len_mid _ _ _ _ part) (omega (arith, simp (length-take, length-drop) at c.in_ok-n.ensures.count));
      content = search rules;
      nature = search rules;
      filled = IsFilled-more _ _ _ _ _ _ _ _ _ _ _ _ _ _ c.loop-done.invariant.in_range within c.loop-done.invariant.filled (rw c.loop-done.invariant.content at c.in_ok-n.ensures.bytes) (rw c.loop-done.invariant.content at c.in_ok-n.ensures.cause);
    }
