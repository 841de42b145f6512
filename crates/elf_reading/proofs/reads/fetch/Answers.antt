use Rattle.std.proofs.Common.{rules, arith, ◌≡◌, ◌+◌, ◌-◌, length, drop, take, ◌++◌, ◌∙◌, true, is_ok}
use Rattle.elf_reading.proofs.Filling.{IsFilled-step, kept_front, written_whole}
use borrow.Rule.Slice.PartMut.{mid_of, put_mid, same_len_mid}
use Rattle.elf_reading.proofs.reads.fetch.Goals as goal

pub loop-bytes-preserved : goal.loop-bytes-preserved
loop-bytes-preserved g c =
    let n = c.len-read.result in
    let whole = c.deref_mut.result.now in
    let k = length whole - n in
    let part = c.fill.new.buf in
    let x = put_mid n k whole part in
    let same : length part ≡ length (mid_of n k whole) = c.fill.auto.buf in
    let long : length x ≡ length whole = same_len_mid n k whole part same in
    let back : take c.resize.new.self.len (x ++ drop (length x) c.resize.new.self.items) ≡ x = written_whole _ x _ (long ∙ c.deref_mut.ensures.len) in
    let ok : is_ok c.resize.result ≡ true = search rules in
    let front : take n whole ≡ c.loop-bytes.bytes.items = rw (c.deref_mut.ensures.value, c.resize.ensures.items, ok) (kept_front c.loop-bytes.bytes.items _ n (n + c.next_step-more.result) (search rules) (omega arith)) in
    record {
      in_range = search rules;
      room = search rules;
      content = search rules;
      nature = search rules;
      filled = rw back (IsFilled-step _ c.loop-bytes.bytes.items whole part n k _ _ _ _ _ _ (search rules) front (search rules) (search rules) same
          c.loop-bytes.invariant.filled (rw c.loop-bytes.invariant.content at c.in_ok-fill.ensures.bytes) (rw c.loop-bytes.invariant.content at c.in_ok-fill.ensures.position) (rw c.loop-bytes.invariant.content at c.in_ok-fill.ensures.reason));
    }
