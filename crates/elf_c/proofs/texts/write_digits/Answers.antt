use Rattle.std.proofs.Common.{◌-◌, ◌/◌, ◌∙◌, sym, ap, drop, arith}
use Rattle.std.proofs.Math.ListN.{drop_of_length-le}
use Rattle.std.proofs.lemmas.List.{length-set}
use Rattle.std.specs.Fmt.{digits_onto}
use Rattle.std.proofs.DigitsParse.{digits_onto-nil, digits_onto_last, digits_onto_step, drop-set-cons}
use Rattle.elf_c.proofs.texts.write_digits.Goals as goal

pub loop-start-init : goal.loop-start-init
loop-start-init c = (
  omega arith,
  c.told-room,
  ap (digits_onto 64 c.args.base c.args.upper c.args.number) (drop_of_length-le c.args.room.now {i = 64} (omega (arith, c.told-room))) ∙ digits_onto-nil _ _ _,
)

pub loop-start-preserved : goal.loop-start-preserved
loop-start-preserved c =
    let l = c.loop-start in
    let a = c.args in
    let kept = length-set l.room (l.start - 1) c.digit.result ∙ l.invariant.1 in
    let written = ap (digits_onto (l.start - 1) a.base a.upper (l.rest / a.base)) (drop-set-cons l.room l.start _ _ c.loop-start-test.true (omega arith) c.digit.ensures) in
    (omega arith, kept, written ∙ sym (digits_onto_step a.base a.upper l.rest (drop l.start l.room) l.start c.loop-start-test.true c.if-rest-eq0.false) ∙ l.invariant.2)

pub returns-then-rest-eq0 : goal.returns-then-rest-eq0
returns-then-rest-eq0 c =
    let l = c.loop-start in
    let a = c.args in
    let written = drop-set-cons l.room l.start _ _ c.loop-start-test.true (omega arith) c.digit.ensures in
    record { within = omega arith; value = written ∙ sym (digits_onto_last a.base a.upper l.rest (drop l.start l.room) l.start c.loop-start-test.true c.if-rest-eq0.true) ∙ l.invariant.2 }
