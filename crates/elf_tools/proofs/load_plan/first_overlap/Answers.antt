use Rattle.std.proofs.Common.{sym, ap, ◌∙◌, ◌||◌, get_or}
use Rattle.std.proofs.lemmas.Option.{slice_get-get_or}
use Rattle.elf_tools.specs.LoadPlan.{overlap}
use Rattle.elf_tools.specs.declared.load_plan.Mapping.{Mapping}
use Rattle.elf_tools.proofs.Apart.{any_of_next, one_more_before}
use Rattle.elf_tools.proofs.load_plan.first_overlap.Goals as goal

pub loop-place-preserved : goal.loop-place-preserved
loop-place-preserved c =
    let all = c.args.all.now in
    let place = c.loop-place.place in
    let nothing : Mapping = record { address = 0; memory_size = 0; offset = 0; file_size = 0; flags = 0 } in
    let mapping : Mapping = get_or all place nothing in
    let there = slice_get-get_or all place nothing c.loop-place-test.true in
    let none = sym (c.loop-place.invariant.2 mapping) ∙ sym c.meets_any.ensures ∙ c.if-meets_any.false in (
      one_more_before all place mapping there none c.loop-place.invariant.0,
      c.in_ok-add.ensures.apart,
      λ m. c.in_ok-add.ensures.added m ∙ ap (λ b. overlap m mapping || b) (c.loop-place.invariant.2 m) ∙ sym (any_of_next (overlap m) all place mapping there),
    )
