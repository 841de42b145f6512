use Rattle.std.proofs.Common.{◌≡◌, ◌<◌, ◌≤◌, ◌+◌, ◌-◌, [], ◌∷◌, length, slice_get, Some, refl, ap, sym, ◌∙◌, arith}
use Rattle.std.proofs.lemmas.List.{length-append}
use Rattle.std.proofs.lemmas.Option.{slice_get_within}
use Rattle.elf_check.specs.FaultWalk.{Checking, checking}
use Rattle.elf_check.specs.Stages.{checked_in, count_of, subject_of}
use Rattle.elf_check.proofs.Walking.{checked_first, none_after, passes_none, passes_on, passes_one, some_after}
use Rattle.elf_check.proofs.Walking.{sound_if_none, step_end, step_in, step_over}
use Rattle.elf_check.proofs.checking.FaultWalk.next_fault.Goals as goal

pub loop-stage-init : goal.loop-stage-init
loop-stage-init g c = passes_none (checking g.E.EndianParse.little c.args.self.now)

pub returns-then-is_some : goal.returns-then-is_some
returns-then-is_some g c =
    let before = checking g.E.EndianParse.little c.args.self.now in
    let now = checking g.E.EndianParse.little c.loop-stage.self in
    let stages = c.loop-stage.self.stages.now in
    let i = c.loop-stage.self.stage in
    let n = c.loop-stage.self.index in
    let here : slice_get stages i ≡ Some c.in-Some.stage = sym c.current.ensures.stage ∙ c.in-Some.is in
    let less : n < count_of now.file c.in-Some.stage = omega (arith, c.if-index-count.true, c.count.ensures) in
    let after : Checking = record { file = now.file; all = now.all; checked = checked_in now.file stages i (n + 1) } in
    some_after before now after (subject_of c.in-Some.stage n) c.fault_at-fault.result c.loop-stage.invariant refl refl
    (step_in now.file stages i n c.in-Some.stage here less) c.fault_at-fault.ensures (sym c.is_some.ensures ∙ c.if-is_some.true)
    (checked_first now.file stages i (n + 1))

pub loop-stage-preserved-else-is_some : goal.loop-stage-preserved-else-is_some
loop-stage-preserved-else-is_some g c =
    let before = checking g.E.EndianParse.little c.args.self.now in
    let now = checking g.E.EndianParse.little c.loop-stage.self in
    let stages = c.loop-stage.self.stages.now in
    let i = c.loop-stage.self.stage in
    let n = c.loop-stage.self.index in
    let here : slice_get stages i ≡ Some c.in-Some.stage = sym c.current.ensures.stage ∙ c.in-Some.is in
    let less : n < count_of now.file c.in-Some.stage = omega (arith, c.if-index-count.true, c.count.ensures) in
    let after : Checking = record { file = now.file; all = now.all; checked = checked_in now.file stages i (n + 1) } in
    passes_one before now after (subject_of c.in-Some.stage n) c.loop-stage.invariant refl refl
    (step_in now.file stages i n c.in-Some.stage here less)
    (sound_if_none now.file (subject_of c.in-Some.stage n) c.fault_at-fault.result c.fault_at-fault.ensures (sym c.is_some.ensures ∙ c.if-is_some.false))

pub loop-stage-smaller-else-is_some : goal.loop-stage-smaller-else-is_some
loop-stage-smaller-else-is_some g c =
    let now = checking g.E.EndianParse.little c.loop-stage.self in
    let stages = c.loop-stage.self.stages.now in
    let i = c.loop-stage.self.stage in
    let n = c.loop-stage.self.index in
    let here : slice_get stages i ≡ Some c.in-Some.stage = sym c.current.ensures.stage ∙ c.in-Some.is in
    let less : n < count_of now.file c.in-Some.stage = omega (arith, c.if-index-count.true, c.count.ensures) in
    let x = subject_of c.in-Some.stage n in
    let more = ap length (step_in now.file stages i n c.in-Some.stage here less) ∙ length-append now.checked (x ∷ []) in
    let first = checked_first now.file stages i (n + 1) in
    let most = ap length first.1 ∙ length-append (checked_in now.file stages i (n + 1)) first.0 in
    omega (arith, more, most)

pub loop-stage-smaller : goal.loop-stage-smaller
loop-stage-smaller g c =
    let now = checking g.E.EndianParse.little c.loop-stage.self in
    let stages = c.loop-stage.self.stages.now in
    let i = c.loop-stage.self.stage in
    let n = c.loop-stage.self.index in
    let here : slice_get stages i ≡ Some c.in-Some.stage = sym c.current.ensures.stage ∙ c.in-Some.is in
    let past : count_of now.file c.in-Some.stage ≤ n = omega (arith, c.if-index-count.false, c.count.ensures) in
    let same = ap length (step_over now.file stages i n c.in-Some.stage here past) in
    let within = slice_get_within stages i c.in-Some.stage here in
    omega (arith, same, within)

pub loop-stage-preserved : goal.loop-stage-preserved
loop-stage-preserved g c =
    let before = checking g.E.EndianParse.little c.args.self.now in
    let now = checking g.E.EndianParse.little c.loop-stage.self in
    let stages = c.loop-stage.self.stages.now in
    let i = c.loop-stage.self.stage in
    let n = c.loop-stage.self.index in
    let here : slice_get stages i ≡ Some c.in-Some.stage = sym c.current.ensures.stage ∙ c.in-Some.is in
    let past : count_of now.file c.in-Some.stage ≤ n = omega (arith, c.if-index-count.false, c.count.ensures) in
    let after : Checking = record { file = now.file; all = now.all; checked = checked_in now.file stages (i + 1) 0 } in
    passes_on before now after c.loop-stage.invariant refl refl (step_over now.file stages i n c.in-Some.stage here past)

pub returns : goal.returns
returns g c =
    let before = checking g.E.EndianParse.little c.args.self.now in
    let now = checking g.E.EndianParse.little c.loop-stage.self in
    none_after before now c.loop-stage.invariant
    (step_end now.file c.loop-stage.self.stages.now c.loop-stage.self.stage c.loop-stage.self.index (sym c.current.ensures.stage ∙ c.in_default.is))
