use Rattle.std.proofs.Common.{◌≡◌, List, IfSome, map}
use Rattle.elf_libraries.specs.Folder.{KnownFiles}
use Rattle.elf_libraries.specs.Tree.{entry_view}
use Rattle.nugwier_report.specs.Said.{Said, saying}
use Rattle.nugwier_programs.specs.Loading.{object_said}
use Rattle.nugwier_programs.proofs.KnownFiles.{AreLeft}
use Rattle.nugwier_programs.proofs.starts.loading.tell_each.Given as goal

-- what was told of the libraries so far, and then what is told of those that are left, is the whole
abbrev pub invariant-loop-library : goal.invariant-loop-library
invariant-loop-library g l =
    let known = g.F.Files.known l.fn.files in
    (so_far : List Said)
    × IfSome known (AreLeft known (λ (files : KnownFiles). object_said files.contents l.fn.linker (map entry_view l.fn.objects)) entry_view l.fn.libraries l.library-index so_far)
    × (l.tell ≡ saying g.T.Tell.one l.fn.tell so_far)
