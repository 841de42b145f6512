use Rattle.std.proofs.Common.{◌≡◌, drop, map}
use Rattle.std.specs.List.{flat_map}
use Rattle.std.specs.Option.{option_map}
use Rattle.nugwier_report.specs.Said.{saying}
use Rattle.nugwier_programs.specs.Symbols.{one_said}
use Rattle.nugwier_programs.specs.inner.Scope.{indexed_view, scope_paths}
use Rattle.nugwier_programs.proofs.bindings.rows.tell_bindings.Given as goal

-- all is said once it is said of the symbols that are left
abbrev pub invariant-loop-one : goal.invariant-loop-one
invariant-loop-one g l =
    let said = flat_map (one_said (scope_paths l.scope.files.now) (map indexed_view l.scope.objects.now) l.file.path.now l.file.strings (option_map (λ index. index.now) l.versions) l.uses) in
    saying g.T.Tell.one l.tell (said (drop l.one-index l.bound)) ≡ saying g.T.Tell.one l.initial.tell (said l.bound)
