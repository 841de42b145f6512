use Rattle.std.proofs.Common.{ap, append-nil, ◌∙◌, map, refl, rules, sym}
use Rattle.nugwier_programs.specs.Bindings.{Searched, Unsearchable}
use Rattle.nugwier_programs.specs.Faults.{warned}
use Rattle.nugwier_programs.specs.declared.faults.Fault.{Fault}
use Rattle.nugwier_report.specs.Said.{saying}
use Rattle.nugwier_programs.specs.inner.Scope.{search_fault, searched_file}
use Rattle.nugwier_programs.proofs.Scopes.{one_found}
use Rattle.nugwier_programs.proofs.bindings.objects.add_file.Goals as goal

pub returns-in_ok-push-in-Ok-Some : goal.returns-in_ok-push-in-Ok-Some
returns-in_ok-push-in-Ok-Some g c = (
  Searched (searched_file c.in-Ok-Some.one),
  rw c.in-Ok-Some.field-0-is at c.in-Ok-Some.ensures,
  refl,
  one_found c.args.found.now.items c.push.new.self.items c.in-Ok-Some.one _ c.in_ok-push-in-Ok-Some.ensures.items (search (rules, c.in-Ok-Some.one-is)),
)

pub returns-in_ok-problem-in-Err : goal.returns-in_ok-problem-in-Err
returns-in_ok-problem-in-Err g c = (
  Unsearchable (search_fault c.args.file.now.path.now c.in-Err.fault),
  c.in-Err.ensures,
  c.in_ok-problem-in-Err.ensures ∙ ap (λ (f : Fault). saying g.T.Tell.one c.args.tell.now (warned f)) c.problem_of.ensures,
  sym (append-nil (map searched_file c.args.found.now.items)),
)
