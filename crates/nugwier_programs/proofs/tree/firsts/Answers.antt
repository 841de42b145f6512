use Rattle.std.proofs.Common.{◌≡◌, ℕ, ◌+◌, ◌-◌, ◌<◌, List, length, map, ap, arith, subst, sym, ◌∙◌, rules}
use Rattle.std.proofs.lemmas.List.{length-map}
use Rattle.elf_libraries.specs.Tree.{Entry, entry_view}
use Rattle.nugwier_programs.specs.inner.Walk.{AreFirsts, with_first}
use Rattle.nugwier_programs.proofs.Walk.{firsts_known, firsts_more, no_firsts}
use Rattle.nugwier_programs.proofs.tree.firsts.Goals as goal

pub loop-place-init : goal.loop-place-init
loop-place-init c =
    let objects : List Entry = map entry_view c.args.objects.now in
    let long = length-map c.args.objects.now entry_view in
    (no_firsts objects (length c.args.objects.now) c.in_ok-firsts.firsts.items (sym long) (search (rules)), omega arith, λ none. none)

pub loop-place-preserved : goal.loop-place-preserved
loop-place-preserved c =
    let objects : List Entry = map entry_view c.args.objects.now in
    let k = c.loop-place.place - 1 in
    let before = c.loop-place.invariant in
    let long = length-map c.args.objects.now entry_view in
    let less : k < length objects = omega (arith, c.loop-place-test.true, before.1, long) in
    let next : k + 1 ≡ c.loop-place.place = omega (arith, c.loop-place-test.true) in (
      firsts_more objects k c.loop-place.firsts.items c.set_first.new.firsts.items less (c.set_first.ensures ∙ ap (λ (n : ℕ). with_first c.loop-place.firsts.items n k) c.loader_at.ensures)
          (subst (λ (n : ℕ). AreFirsts objects n c.loop-place.firsts.items) (sym next) before.0),
      omega (arith, before.1),
      λ none. absurd (omega (arith, none, c.loop-place-test.true)),
    )

pub returns : goal.returns
returns c =
    let before = c.loop-place.invariant in
    firsts_known (map entry_view c.args.objects.now) c.loop-place.place c.loop-place.firsts.items c.loop-place-test.false (λ none. length-map c.args.objects.now entry_view ∙ before.2 none) before.0
