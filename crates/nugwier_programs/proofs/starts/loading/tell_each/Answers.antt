use Rattle.std.proofs.Common.{◌≡◌, ◌++◌, [], List, ap, map, refl}
use Rattle.elf_libraries.specs.Folder.{KnownFiles}
use Rattle.elf_libraries.specs.Tree.{entry_view}
use Rattle.nugwier_report.proofs.Saying.{then_said}
use Rattle.nugwier_report.specs.Said.{Said}
use Rattle.nugwier_programs.specs.Loading.{file_said, object_said}
use Rattle.nugwier_programs.specs.Tree.{object_problem}
use Rattle.nugwier_programs.proofs.KnownFiles.{known_so, none_left, none_said, one_more}
use Rattle.nugwier_programs.proofs.starts.loading.tell_each.Goals as goal

pub loop-library-init : goal.loop-library-init
loop-library-init g c =
    let known = g.F.Files.known c.args.files.now in
    let says = λ (files : KnownFiles). object_said files.contents c.args.linker.now (map entry_view c.args.objects.now) in
    ([], none_said known says entry_view c.args.libraries.now, refl)

pub loop-library-preserved : goal.loop-library-preserved
loop-library-preserved g c =
    let known = g.F.Files.known c.args.files.now in
    let objects = map entry_view c.args.objects.now in
    let says = λ (files : KnownFiles). object_said files.contents c.args.linker.now objects in
    let before = c.loop-library.invariant in
    let library = c.library-item.result in
    let problem = object_problem objects (entry_view library) in
    let file = c.in_ok-tell_file.ensures in
    let one = problem ++ file.0 in
    let here = known_so known (λ (files : KnownFiles). file.0 ≡ file_said files.contents c.args.linker.now (entry_view library).file) (λ files. one ≡ says files (entry_view library)) (λ files is. ap (λ (l : List Said). problem ++ l) is) file.1 in (
      before.0 ++ one,
      one_more known says entry_view c.args.libraries.now c.loop-library.library-index library before.0 one c.loop-library-test.true c.library-item.is before.1 here,
      then_said g.T.Tell.one c.args.tell.now c.loop-library.tell c.tell_file.new.tell before.0 one before.2
          (then_said g.T.Tell.one c.loop-library.tell c.tell_problem.new.tell c.tell_file.new.tell problem file.0 c.in_ok-tell_problem.ensures file.2),
    )

pub returns : goal.returns
returns g c =
    let known = g.F.Files.known c.args.files.now in
    let says = λ (files : KnownFiles). object_said files.contents c.args.linker.now (map entry_view c.args.objects.now) in
    let before = c.loop-library.invariant in
    (before.0, none_left known says entry_view c.args.libraries.now c.loop-library.library-index before.0 c.loop-library-test.false before.1, before.2)
