use Rattle.std.proofs.Common.{ap, sym, ◌∙◌, drop}
use Rattle.elf_libraries.proofs.Expanding.{drop_next}
use Rattle.elf_libraries.specs.Patterns.{rests_after, rests_view}
use Rattle.elf_libraries.proofs.patterns.rests_after.Goals as goal

pub loop-place-preserved : goal.loop-place-preserved
loop-place-preserved c =
    let pattern = c.args.pattern.now in
    let place = c.loop-place.place in
    let old = rests_view c.loop-place.rests.items in
    let new = rests_view c.step.new.rests.items in
    c.loop-place.invariant
    ∙ ap (λ l. rests_after c.loop-place.skip l old) (sym c.rest_of.ensures)
    ∙ c.in_ok-skip.ensures
    ∙ ap (λ l. rests_after c.in_ok-skip.skip l new) (ap (drop 1) c.rest_of.ensures ∙ drop_next pattern place)
