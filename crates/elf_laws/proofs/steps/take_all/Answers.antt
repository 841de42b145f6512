use Rattle.std.proofs.Common.{◌≡◌, ◌+◌, ◌<◌, ◌≤◌, ◌++◌, [], ◌∷◌, ap, arith, length, subst, sym, ◌∙◌}
use Rattle.std.specs.Prelude.{take}
use Rattle.std.proofs.lemmas.List.{take_all, take_more}
use Rattle.elf_laws.proofs.Taken.{Take, one_more_taken, taken_alike}
use Rattle.elf_laws.proofs.steps.take_all.Goals as goal

pub loop-step-preserved : goal.loop-step-preserved
loop-step-preserved g c =
    let little = g.E.EndianParse.little in
    let steps = c.args.steps.now in
    let i = c.loop-step.step-index in
    let one = c.step-item.result in
    let inside : i < length steps = c.loop-step-test.true in
    let next : take (i + 1) steps ≡ take i steps ++ (one ∷ []) = take_more steps i one inside ∙ ap (λ x. take i steps ++ (x ∷ [])) (sym c.step-item.is) in
    let few : c.loop-step.refused ≤ i = c.loop-step.invariant.1 in
    let more : c.take-refused.result ≤ 1 = c.take-refused.ensures.one in (
      subst (λ steps. Take little steps c.args.stream.now c.take-refused.new.stream (c.loop-step.refused + c.take-refused.result)) (sym next)
          (one_more_taken little (take i steps) one c.args.stream.now c.loop-step.stream c.take-refused.new.stream c.loop-step.refused c.take-refused.result c.loop-step.invariant.0 c.take-refused.ensures.taken),
      omega (arith, few, more),
    )

pub returns : goal.returns
returns g c =
    let little = g.E.EndianParse.little in
    let steps = c.args.steps.now in
    let ended : length steps ≤ c.loop-step.step-index = omega arith in
    let all = take_all c.loop-step.step-index steps ended in
    taken_alike little g.E.EndianParse.of_byte c.args.stream.now c.is_of_file.ensures c.calls_answer_alike.ensures.calls steps c.loop-step.stream c.loop-step.refused
    (subst (λ steps. Take little steps c.args.stream.now c.loop-step.stream c.loop-step.refused) all c.loop-step.invariant.0)
