use Rattle.std.proofs.Common.{◌≡◌, drop, map}
use Rattle.std.specs.List.{flat_map}
use Rattle.elf_libraries.specs.Tree.{entry_view}
use Rattle.nugwier_report.specs.Said.{saying}
use Rattle.nugwier_programs.specs.Tree.{object_problem, object_problems}
use Rattle.nugwier_programs.proofs.tree.tell_problems.Given as goal

-- all is said once the problems of the objects that are left are said
abbrev pub invariant-loop-object : goal.invariant-loop-object
invariant-loop-object g l =
    let entries = map entry_view l.objects in
    saying g.T.Tell.one l.tell (flat_map (object_problem entries) (map entry_view (drop l.object-index l.objects)))
    ≡ saying g.T.Tell.one l.initial.tell (object_problems entries)
