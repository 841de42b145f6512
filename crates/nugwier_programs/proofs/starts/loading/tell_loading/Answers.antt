use Rattle.std.proofs.Common.{◌≡◌, ◌++◌, ◌∷◌, List, ap, drop, map, subst}
use Rattle.std.specs.List.{flat_map}
use Rattle.std.specs.Prelude.{IfSome}
use Rattle.elf_libraries.specs.Folder.{KnownFiles}
use Rattle.elf_libraries.specs.Tree.{Entry, entry_view}
use Rattle.nugwier_report.proofs.Saying.{then_said}
use Rattle.nugwier_report.specs.Said.{Said}
use Rattle.nugwier_programs.specs.Loading.{loading_of, object_said}
use Rattle.nugwier_programs.specs.Tree.{object_problem}
use Rattle.nugwier_programs.proofs.KnownFiles.{known_so}
use Rattle.nugwier_programs.proofs.Scopes.{first_object, others_view}
use Rattle.nugwier_programs.proofs.starts.loading.tell_loading.Goals as goal

pub returns : goal.returns
returns g c =
    let known = g.F.Files.known c.args.files.now in
    let linker = c.args.linker.now in
    let objects = map entry_view c.args.objects.now in
    let problem = object_problem objects (entry_view c.program-item.result) in
    let each = c.in_ok-tell_each.ensures in
    let libraries = drop 1 objects in
    let others = others_view c.args.objects.now c.in-len1-up.len_at_least in
    let told = subst (λ (l : List Entry). IfSome known (λ (files : KnownFiles). each.0 ≡ flat_map (object_said files.contents linker objects) l)) others each.1 in
    let said = known_so known (λ (files : KnownFiles). each.0 ≡ flat_map (object_said files.contents linker objects) libraries) (λ files. problem ++ each.0 ≡ loading_of files.contents linker objects (entry_view c.program-item.result ∷ libraries)) (λ files is. ap (λ (l : List Said). problem ++ l) is) told in (
      problem ++ each.0,
      subst (λ (all : List Entry). IfSome known (λ (files : KnownFiles). problem ++ each.0 ≡ loading_of files.contents linker objects all)) (first_object c.args.objects.now c.program-item.result c.in-len1-up.len_at_least c.program-item.is) said,
      then_said g.T.Tell.one c.args.tell.now c.tell_problem.new.tell c.tell_each.new.tell problem each.0 c.in_ok-tell_problem.ensures each.2,
    )
