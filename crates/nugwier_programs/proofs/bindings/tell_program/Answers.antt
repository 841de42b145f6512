use Rattle.std.proofs.Common.{◌++◌, ◌∙◌, Option, ap, map, refl, subst, sym}
use Rattle.std.specs.Option.{option_map}
use Rattle.elf_libraries.specs.Tree.{entry_of}
use Rattle.nugwier_report.proofs.Saying.{then_said}
use Rattle.nugwier_programs.specs.Bindings.{IsProgramSaid, OpenFile, open_problem}
use Rattle.nugwier_programs.specs.inner.Scope.{open_view}
use Rattle.nugwier_programs.proofs.bindings.tell_program.Goals as goal

pub returns : goal.returns
returns g c =
    let known = g.F.Files.known c.args.files.now in
    let libraries = map entry_of c.args.libraries.now in
    let one = c.in_ok-program.ensures in
    let others = c.in_ok-tell_opened.ensures in
    let file = ap (option_map open_view) (sym c.in-Some.is) ∙ one.2 in
    let said = subst (λ (o : Option OpenFile). IsProgramSaid known o libraries others.0) file others.1 in (
      open_problem one.0 ++ others.0,
      (one.0, one.1, others.0, said, refl),
      then_said g.T.Tell.one c.args.tell.now c.open_file.new.tell c.tell_opened.new.tell (open_problem one.0) others.0 one.3 others.2,
    )
