use Rattle.std.proofs.Common.{arith}
use Rattle.elf.proofs.stream.Steps.{keeps_then}
use Rattle.elfshow.proofs.StreamRuns.{all_at_hand, more_loaded, more_used, more_written, stopped, stopped_need}
use Rattle.elfshow.proofs.StreamRuns.{stopped_use}
use Rattle.elfshow.proofs.runs.run_stream.Goals as goal

pub loop-done-preserved : goal.loop-done-preserved
loop-done-preserved g c =
    let keeps = c.loop-done.invariant.keeps in
    record {
      keeps = keeps_then c.args.stream.now c.loop-done.stream c.write_call.new.stream keeps c.write_call.ensures.keeps;
      used = more_used g.E.EndianParse.little c.args.stream.now c.loop-done.stream c.write_call.new.stream c.args.calls.now c.loop-done.done _ keeps (omega arith) c.loop-done.invariant.used c.write_call.ensures.only (λ cached. (c.write_call.ensures.untouched cached).0);
      written = more_written g.E.EndianParse.little c.args.stream.now c.loop-done.stream c.args.stream.now.content c.args.calls.now c.loop-done.done _ c.write_call.new.stream.failures _ _ _ _ c.write_call.result _ keeps (omega arith) c.flush-flushed.ensures.bytes c.in-Ok.is c.loop-done.invariant.written
          (rw keeps.content at c.write_call.ensures.ran);
      loaded = more_loaded g.E.EndianParse.little c.loop-done.stream c.write_call.new.stream c.args.stream.now.content c.args.calls.now c.loop-done.done _ c.write_call.result _ c.write_call.ensures.keeps (omega arith) c.in-Ok.is c.loop-done.invariant.loaded
          (rw keeps.content at c.write_call.ensures.loaded);
    }

pub returns-in-Err-clause-ran : goal.returns-in-Err-clause-ran
returns-in-Err-clause-ran g c =
    let keeps = c.loop-done.invariant.keeps in
    rw c.stopped_after.ensures (stopped g.E.EndianParse.little c.args.stream.now c.loop-done.stream c.args.stream.now.content c.args.calls.now c.loop-done.done _ c.write_call.new.stream.failures _ _ _ c.write_call.result c.in-Err.stop keeps (omega arith) c.in-Err.is c.loop-done.invariant.written
    (rw keeps.content at c.write_call.ensures.ran))

pub returns-in-Err-clause-no_fault : goal.returns-in-Err-clause-no_fault
returns-in-Err-clause-no_fault g c = λ hand.
    rw c.stopped_after.ensures (stopped_use g.E.EndianParse.little c.args.stream.now c.loop-done.stream c.write_call.new.stream c.args.calls.now c.loop-done.done _ c.loop-done.invariant.keeps (omega arith) c.loop-done.invariant.used c.write_call.result c.in-Err.stop c.in-Err.is c.write_call.ensures.untouched
    (all_at_hand g.E.EndianParse.little c.args.stream.now c.args.calls.now hand)).1

pub returns-in-Err-clause-only : goal.returns-in-Err-clause-only
returns-in-Err-clause-only g c =
    (more_used g.E.EndianParse.little c.args.stream.now c.loop-done.stream c.write_call.new.stream c.args.calls.now c.loop-done.done _ c.loop-done.invariant.keeps (omega arith) c.loop-done.invariant.used c.write_call.ensures.only (λ cached. (c.write_call.ensures.untouched cached).0)).only

pub returns-in-Err-clause-untouched : goal.returns-in-Err-clause-untouched
returns-in-Err-clause-untouched g c =
    rw c.stopped_after.ensures (stopped_use g.E.EndianParse.little c.args.stream.now c.loop-done.stream c.write_call.new.stream c.args.calls.now c.loop-done.done _ c.loop-done.invariant.keeps (omega arith) c.loop-done.invariant.used c.write_call.result c.in-Err.stop c.in-Err.is c.write_call.ensures.untouched)

pub returns-in-Err-clause-needed : goal.returns-in-Err-clause-needed
returns-in-Err-clause-needed g c =
    let keeps = c.loop-done.invariant.keeps in
    rw c.stopped_after.ensures (stopped_need g.E.EndianParse.little c.args.stream.now c.loop-done.stream c.write_call.new.stream c.args.calls.now c.loop-done.done _ keeps (omega arith) c.loop-done.invariant.used c.write_call.result c.in-Err.stop c.in-Err.is (rw keeps.content at c.write_call.ensures.needed))

pub returns-in-Err-flushed-clause-only : goal.returns-in-Err-flushed-clause-only
returns-in-Err-flushed-clause-only g c =
    (more_used g.E.EndianParse.little c.args.stream.now c.loop-done.stream c.write_call.new.stream c.args.calls.now c.loop-done.done _ c.loop-done.invariant.keeps (omega arith) c.loop-done.invariant.used c.write_call.ensures.only (λ cached. (c.write_call.ensures.untouched cached).0)).only

pub returns-in-Err-flushed-clause-untouched : goal.returns-in-Err-flushed-clause-untouched
returns-in-Err-flushed-clause-untouched g c = λ cached. (
  (more_used g.E.EndianParse.little c.args.stream.now c.loop-done.stream c.write_call.new.stream c.args.calls.now c.loop-done.done _ c.loop-done.invariant.keeps (omega arith) c.loop-done.invariant.used c.write_call.ensures.only (λ cached. (c.write_call.ensures.untouched cached).0)).untouched cached,
  tt,
)
