use Rattle.std.proofs.Common.{◌+◌, ap, arith}
use Rattle.nugwier_sections.proofs.Strings.{after_other, after_zero}
use Rattle.nugwier_sections.proofs.content_rows.tell_strings.Goals.{then-byte-eq0+in_ok-tell_string, else-byte-eq0}
use Rattle.nugwier_sections.proofs.content_rows.tell_strings.Goals as goal

pub loop-byte-preserved : goal.loop-byte-preserved
loop-byte-preserved g c =
    let before = c.loop-byte.invariant in
    elim c.if-byte-eq0.branch [
      | then-byte-eq0+in_ok-tell_string w ↦ rw w.tell-is (rw w.start-is (ap (λ n. n + 1) before.0, omega arith, after_zero g.T.Tell.one c.loop-byte.tell _ _ c.args.section c.loop-byte.start c.loop-byte.place c.loop-byte.byte-index c.args.bytes.now before.0 before.1 c.loop-byte-test.true w.if-byte-eq0.true w.in_ok-tell_string.ensures before.2))
      | else-byte-eq0 w ↦ rw w.tell-is (rw w.start-is (ap (λ n. n + 1) before.0, omega (arith, before.1), after_other g.T.Tell.one c.loop-byte.tell _ c.args.section c.loop-byte.start c.loop-byte.place c.loop-byte.byte-index c.args.bytes.now before.0 before.1 c.loop-byte-test.true w.if-byte-eq0.false before.2))
    ]
