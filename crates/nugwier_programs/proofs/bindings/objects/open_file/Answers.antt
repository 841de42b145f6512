use Rattle.std.proofs.Common.{◌∙◌, ℕ, List, Option, Some, ap, refl, subst}
use Rattle.std.proofs.lemmas.Option.{IfSome_then}
use Rattle.elf_linking.specs.declared.resolve.ObjectFault.TheVariants.{Read}
use Rattle.nugwier_programs.specs.Faults.{warned}
use Rattle.nugwier_report.specs.Said.{saying}
use Rattle.nugwier_programs.specs.declared.faults.Fault.TheVariants.{Object, Unread}
use Rattle.nugwier_programs.specs.Bindings.{Gone, Loaded, Refused}
use Rattle.nugwier_programs.specs.inner.Opening.{IsLoadedFrom}
use Rattle.nugwier_programs.specs.inner.Scope.{open_at}
use Rattle.nugwier_programs.proofs.Linked.{file_gone, file_loaded, file_refused, of_file}
use Rattle.nugwier_programs.proofs.bindings.objects.open_file.Goals as goal

pub returns-in-Some-Ok : goal.returns-in-Some-Ok
returns-in-Some-Ok g c =
    let path = c.as_slice-path.result.now in
    let file = c.in-Some-Ok.file in
    let found = c.in-Some-Ok.is ∙ ap Some c.in-Some-Ok.field-0-is in
    let content = IfSome_then _ c.in_ok-file.ensures (λ (content : Option (List ℕ)) h. file_loaded path file content (subst (IsLoadedFrom content) found h)) in
    (Loaded (open_at path file), of_file (g.F.Files.known c.args.files.now) c.args.object.now.file c.in-Some.loaded _ c.in-Some.is (c.as_slice-path.ensures.value, content), refl, refl)

pub returns-in_ok-problem-in-Some-Err : goal.returns-in_ok-problem-in-Some-Err
returns-in_ok-problem-in-Some-Err g c =
    let path = c.as_slice-path.result.now in
    let e = c.in-Some-Err.error in
    let found = c.in-Some-Err.is ∙ ap Some c.in-Some-Err.field-0-is in
    let content = IfSome_then _ c.in_ok-file.ensures (λ (content : Option (List ℕ)) h. file_refused path e content (subst (IsLoadedFrom content) found h)) in (
      Refused path e,
      of_file (g.F.Files.known c.args.files.now) c.args.object.now.file c.in-Some.loaded _ c.in-Some.is (c.as_slice-path.ensures.value, content),
      refl,
      c.in_ok-problem-in-Some-Err.ensures ∙ ap (λ (p : List ℕ). saying g.T.Tell.one c.args.tell.now (warned (Object p (Read e)))) c.new.ensures,
    )

pub returns-in_ok-problem-in-None : goal.returns-in_ok-problem-in-None
returns-in_ok-problem-in-None g c =
    let path = c.as_slice-path.result.now in
    let content = IfSome_then _ c.in_ok-file.ensures (λ (content : Option (List ℕ)) h. file_gone path content (subst (IsLoadedFrom content) c.in-None.is h)) in (
      Gone path,
      of_file (g.F.Files.known c.args.files.now) c.args.object.now.file c.in-Some.loaded _ c.in-Some.is (c.as_slice-path.ensures.value, content),
      refl,
      c.in_ok-problem-in-None.ensures ∙ ap (λ (p : List ℕ). saying g.T.Tell.one c.args.tell.now (warned (Unread p))) c.new-in-None.ensures,
    )
