use Rattle.std.proofs.Common.{◌∙◌, arith, false}
use Rattle.std.specs.Fmt.{digits}
use Rattle.std.proofs.lemmas.List.{length-set}
use Rattle.elfshow_lines.proofs.Digits.{digits_begin, one_end, pair_end, pair_more}
use Rattle.elfshow_lines.proofs.line_buffer.fill_decimal.Goals as goal

pub loop-pairs-init : goal.loop-pairs-init
loop-pairs-init c = (omega arith, c.told-room, digits_begin 10 c.args.n c.args.room.now c.told-room)

pub returns-then-pair-lt10-clause-digits : goal.returns-then-pair-lt10-clause-digits
returns-then-pair-lt10-clause-digits c =
    let (fits, long, so) = c.loop-pairs.invariant in
    one_end c.loop-pairs.pairs c.loop-pairs.left c.loop-pairs.room (digits 10 false c.args.n) c.digit.result c.digit-in-loop-pairs.result c.loop-pairs-test.true (omega (arith, fits, long)) c.digit.ensures c.digit-in-loop-pairs.ensures so c.if-left-eq0.true c.if-pair-lt10.true

pub returns-else-pair-lt10-clause-digits : goal.returns-else-pair-lt10-clause-digits
returns-else-pair-lt10-clause-digits c =
    let (fits, long, so) = c.loop-pairs.invariant in
    pair_end c.loop-pairs.pairs c.loop-pairs.left c.loop-pairs.room (digits 10 false c.args.n) c.digit.result c.digit-in-loop-pairs.result c.loop-pairs-test.true (omega (arith, fits, long)) c.digit.ensures c.digit-in-loop-pairs.ensures so c.if-left-eq0.true c.if-pair-lt10.false

pub loop-pairs-preserved : goal.loop-pairs-preserved
loop-pairs-preserved c =
    let (fits, long, so) = c.loop-pairs.invariant in (
      omega (arith, fits),
      length-set _ _ _ ∙ length-set _ _ _ ∙ long,
      pair_more c.loop-pairs.pairs c.loop-pairs.left c.loop-pairs.room (digits 10 false c.args.n) c.digit.result c.digit-in-loop-pairs.result c.loop-pairs-test.true (omega (arith, fits, long)) c.digit.ensures c.digit-in-loop-pairs.ensures so (omega (arith, c.if-left-eq0.false)),
    )
