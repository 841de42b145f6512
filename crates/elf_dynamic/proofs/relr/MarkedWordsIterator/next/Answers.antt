-- A word that is marked is the first that was left; one that is not is skipped.
use Rattle.std.proofs.Common.{length, ap, sym, ◌∙◌, arith}
use Rattle.elf_dynamic.proofs.Marked.{marked_here, marked_later, marked_none}
use Rattle.elf_dynamic.proofs.relr.MarkedWordsIterator.next.Goals as goal

pub returns-in-Some-clause-steps : goal.returns-in-Some-clause-steps
returns-in-Some-clause-steps c =
    let s = c.loop-self.self in
    sym c.loop-self.invariant
    ∙ marked_here s.class s.start s.bitmap s.index c.in-Some.address (omega (arith, c.loop-self-test.true, c.words_of_bitmap.ensures.value)) c.in-Some.ensures

pub returns-in-Some-clause-goes : goal.returns-in-Some-clause-goes
returns-in-Some-clause-goes c =
    let fewer = ap length (returns-in-Some-clause-steps c) in
    record { on = λ _. (tt, tt, omega (arith, fewer)); keeps = tt; rests = λ _. tt }

pub loop-self-preserved : goal.loop-self-preserved
loop-self-preserved c =
    let s = c.loop-self.self in
    let none = sym c.in_default.is ∙ c.if_marked-marked.ensures in
    sym (marked_later s.class s.start s.bitmap s.index (omega (arith, c.loop-self-test.true, c.words_of_bitmap.ensures.value)) none)
    ∙ c.loop-self.invariant

pub returns-clause-steps : goal.returns-clause-steps
returns-clause-steps c =
    let s = c.loop-self.self in
    let none = marked_none s.class s.start s.bitmap s.index (omega (arith, c.loop-self-test.false, c.words_of_bitmap.ensures.value)) in
    (sym c.loop-self.invariant ∙ none, none)
