use Rattle.std.proofs.Common.{◌≡◌, List}
use Rattle.nugwier_report.specs.Said.{Said, saying}
use Rattle.nugwier_programs.specs.Bindings.{SearchedFile}
use Rattle.nugwier_programs.specs.inner.Scope.{AreInScope}
use Rattle.nugwier_programs.proofs.Scopes.{AreSaidWith}
use Rattle.nugwier_programs.proofs.bindings.tell_files.Given as goal

-- this was said of the files so far, and the rest is said of those that are left
abbrev pub invariant-loop-place : goal.invariant-loop-place
invariant-loop-place g l =
    (so_far : List Said) × (l.tell ≡ saying g.T.Tell.one l.fn.tell so_far)
    × ((all : List SearchedFile) → AreInScope all l.fn.scope.files.now l.fn.scope.objects.now → AreSaidWith all l.place so_far)
