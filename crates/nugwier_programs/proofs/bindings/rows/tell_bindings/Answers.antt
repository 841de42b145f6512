use Rattle.std.proofs.Common.{map}
use Rattle.std.specs.Option.{option_map}
use Rattle.nugwier_programs.specs.BindingRows.{bound_view}
use Rattle.nugwier_programs.specs.inner.Scope.{indexed_view, scope_paths}
use Rattle.nugwier_programs.proofs.Walk.{one_more}
use Rattle.nugwier_programs.proofs.bindings.rows.tell_bindings.Goals as goal

pub loop-one-preserved : goal.loop-one-preserved
loop-one-preserved g c =
    one_more g.T.Tell.one (scope_paths c.args.scope.files.now) (map indexed_view c.args.scope.objects.now) c.args.file.now.path.now c.args.file.now.strings (option_map (λ index. index.now) c.args.versions) c.args.uses.now c.args.bound.now
    c.loop-one.one-index _ (bound_view c.bound_symbol-symbol.result) c.uses_at.result c.loop-one.tell c.tell_symbol.new.tell _ c.loop-one-test.true c.bound_symbol-symbol.ensures c.uses_at.ensures c.in_ok-tell_symbol.ensures c.loop-one.invariant
