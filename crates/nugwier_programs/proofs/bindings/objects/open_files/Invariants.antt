use Rattle.std.proofs.Common.{◌≡◌, List, map}
use Rattle.std.specs.List.{flat_map}
use Rattle.elf_libraries.specs.Tree.{entry_of}
use Rattle.nugwier_report.specs.Said.{saying}
use Rattle.nugwier_programs.specs.Bindings.{IsOpening, Opening, files_in, open_problem}
use Rattle.nugwier_programs.specs.inner.Scope.{open_view}
use Rattle.nugwier_programs.proofs.Scopes.{AreEachWith}
use Rattle.nugwier_programs.proofs.bindings.objects.open_files.Given as goal

-- this became of the objects so far; what could not be opened was told, and the others were added
abbrev pub invariant-loop-object : goal.invariant-loop-object
invariant-loop-object g l =
    (so_far : List Opening) × AreEachWith (IsOpening (g.F.Files.known l.files)) (map entry_of l.objects) l.object-index so_far
    × (map open_view l.opened.items ≡ flat_map files_in so_far)
    × (l.tell ≡ saying g.T.Tell.one l.fn.tell (flat_map open_problem so_far))
