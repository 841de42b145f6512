use Rattle.std.proofs.Common.{◌≡◌, ◌-◌, length, map}
use Rattle.std.specs.List.{flat_map}
use Rattle.elf_libraries.specs.Tree.{entry_view}
use Rattle.nugwier_report.specs.Said.{saying}
use Rattle.nugwier_programs.specs.Tree.{listed, listed_said, walk}
use Rattle.nugwier_programs.specs.inner.Walk.{stack_view}
use Rattle.nugwier_programs.proofs.tree.tell_objects.Given as goal

-- all is said once the walk goes on to its end
abbrev pub invariant-loop : goal.invariant-loop
invariant-loop g l =
    let entries = map entry_view l.objects in
    saying g.T.Tell.one l.tell (flat_map (listed_said entries) (walk (length entries - l.counter) entries (stack_view l.waiting.items)))
    ≡ saying g.T.Tell.one l.fn.tell (flat_map (listed_said entries) (listed entries))
