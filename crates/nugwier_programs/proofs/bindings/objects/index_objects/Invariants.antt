use Rattle.std.proofs.Common.{◌≡◌, ◌++◌, drop, map}
use Rattle.std.specs.List.{zip}
use Rattle.std.specs.Vec.Iter.{into_iter_items}
use Rattle.nugwier_programs.specs.inner.Scope.{indexed_view, paired_object}
use Rattle.nugwier_programs.proofs.bindings.objects.index_objects.Given as goal

-- the objects so far, and then those of the files and tables that are left, are all
abbrev pub invariant-loop-file : goal.invariant-loop-file
invariant-loop-file l =
    map indexed_view l.objects.items ++ map paired_object (zip (drop l.file-index l.files) (into_iter_items l.left))
    ≡ map paired_object (zip l.files (into_iter_items l.initial.left))
