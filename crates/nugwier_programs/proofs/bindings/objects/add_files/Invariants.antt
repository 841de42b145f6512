use Rattle.std.proofs.Common.{◌≡◌, ◌++◌, List, map}
use Rattle.std.specs.List.{flat_map}
use Rattle.nugwier_report.specs.Said.{saying}
use Rattle.nugwier_programs.specs.Bindings.{IsFileSearched, Searching, files_of, search_problem}
use Rattle.nugwier_programs.specs.inner.Scope.{open_view, searched_file}
use Rattle.nugwier_programs.proofs.Scopes.{AreEachWith}
use Rattle.nugwier_programs.proofs.bindings.objects.add_files.Given as goal

-- the files so far are searched in some ways; those that cannot be searched were told, and the others were added
abbrev pub invariant-loop-file : goal.invariant-loop-file
invariant-loop-file g l =
    (so_far : List Searching) × AreEachWith IsFileSearched (map open_view l.files) l.file-index so_far
    × (l.tell ≡ saying g.T.Tell.one l.fn.tell (flat_map search_problem so_far))
    × (map searched_file l.found.items ≡ map searched_file l.fn.found.items ++ flat_map files_of so_far)
