use Rattle.std.proofs.Common.{◌≡◌, suc, ◌+◌, ◌-◌, List, length, map, arith, subst, sym, ◌∙◌}
use Rattle.std.proofs.lemmas.List.{length-map}
use Rattle.elf_libraries.specs.Tree.{Entry, entry_view}
use Rattle.nugwier_report.specs.Said.{saying}
use Rattle.std.specs.List.{flat_map}
use Rattle.nugwier_programs.specs.Tree.{listed, listed_said}
use Rattle.nugwier_programs.specs.inner.Walk.{AreFirsts, listed_view, stack_view}
use Rattle.nugwier_programs.proofs.Walk.{none_waits, popped, stack_empty, walked}
use Rattle.nugwier_programs.proofs.tree.tell_objects.Goals as goal

pub returns-in_default : goal.returns-in_default
returns-in_default g c =
    let entries : List Entry = map entry_view c.args.objects.now in
    let whole = saying g.T.Tell.one c.args.tell.now (flat_map (listed_said entries) (listed entries)) in
    none_waits g.T.Tell.one (listed_said entries) entries (length entries - c.loop.counter) (stack_view c.loop.waiting.items) c.loop.tell whole
    (stack_empty c.loop.waiting.items (sym c.loop.waiting.ok.0 ∙ c.in_default.ensures.cases.0)) c.loop.invariant

pub loop-preserved : goal.loop-preserved
loop-preserved g c =
    let entries : List Entry = map entry_view c.args.objects.now in
    let whole = saying g.T.Tell.one c.args.tell.now (flat_map (listed_said entries) (listed entries)) in
    let long = length-map c.args.objects.now entry_view in
    let x = listed_view c.in-Some.next in
    let rest = stack_view c.pop.new.self.items in
    let count : length entries - c.loop.counter ≡ suc (length entries - (c.loop.counter + 1)) = omega (arith, long, c.loop-test.true) in
    let firsts : AreFirsts entries 1 c.deref.result.now = subst (AreFirsts entries 1) (sym c.deref.ensures.value) c.in_ok-firsts.ensures in
    walked g.T.Tell.one (listed_said entries) entries (length entries - c.loop.counter) (length entries - (c.loop.counter + 1)) x rest
    (stack_view c.loop.waiting.items) (stack_view c.add_next.new.waiting.items) c.loop.tell c.tell_listed.new.tell whole
    count (popped c.loop.waiting.items c.pop.new.self.items c.in-Some.next c.in-Some.ensures.items) (c.in_ok-add_next.ensures firsts) c.in_ok-tell_listed.ensures c.loop.invariant
