use Rattle.std.proofs.Common.{◌++◌, ◌∙◌, ℕ, ◌≤◌, ◌∷◌, [], List, ap, map, refl, subst, sym}
use Rattle.std.proofs.lemmas.List.{length-map}
use Rattle.std.specs.List.{flat_map}
use Rattle.elf_libraries.specs.Tree.{entry_of}
use Rattle.nugwier_report.specs.Said.{saying}
use Rattle.nugwier_programs.specs.Bindings.{IsOpening, OpenFile, files_in, open_problem}
use Rattle.nugwier_programs.specs.inner.Scope.{open_view}
use Rattle.nugwier_programs.proofs.Scopes.{each_done, each_next}
use Rattle.nugwier_report.proofs.Saying.{then_said}
use Rattle.nugwier_programs.proofs.Walk.{flat_more}
use Rattle.nugwier_programs.proofs.bindings.objects.open_files.Goals as goal

pub loop-object-init : goal.loop-object-init
loop-object-init g c = ([], λ rest each. each, ap (map open_view) c.new-opened.ensures.items, refl)

pub loop-object-preserved : goal.loop-object-preserved
loop-object-preserved g c =
    let before = c.loop-object.invariant in
    let one = c.in_ok-add_open.ensures in (
      before.0 ++ one.0 ∷ [],
      each_next (IsOpening (g.F.Files.known c.args.files.now)) entry_of c.args.objects.now c.loop-object.object-index c.object-item.result before.0 one.0 c.loop-object-test.true c.object-item.is one.1 before.1,
      one.2 ∙ ap (λ (l : List OpenFile). l ++ files_in one.0) before.2 ∙ sym (flat_more files_in before.0 one.0),
      then_said g.T.Tell.one c.args.tell.now c.loop-object.tell c.add_open.new.tell (flat_map open_problem before.0) (open_problem one.0) before.3 one.3 ∙ ap (saying g.T.Tell.one c.args.tell.now) (sym (flat_more open_problem before.0 one.0)),
    )

pub returns : goal.returns
returns g c =
    let objects = c.args.objects.now in
    let before = c.loop-object.invariant in
    let past = subst (λ (n : ℕ). n ≤ c.loop-object.object-index) (sym (length-map objects entry_of)) c.loop-object-test.false in
    (before.0, each_done (IsOpening (g.F.Files.known c.args.files.now)) (map entry_of objects) c.loop-object.object-index before.0 past before.1, before.2, before.3)
