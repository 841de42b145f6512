use Rattle.std.proofs.Common.{◌≡◌, drop}
use Rattle.elf_libraries.specs.Search.{folders_view, is_outside}
use Rattle.elf_libraries.proofs.search.is_outside.Given as goal

-- the path is below none of the folders so far
abbrev pub invariant-loop-folder : goal.invariant-loop-folder
invariant-loop-folder l =
    is_outside (folders_view (drop l.folder-index l.excluded)) l.path ≡ is_outside (folders_view l.excluded) l.path
