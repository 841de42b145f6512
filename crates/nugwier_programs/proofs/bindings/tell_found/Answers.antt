use Rattle.std.proofs.Common.{map, ◌∙◌}
use Rattle.nugwier_programs.specs.inner.Scope.{searched_file}
use Rattle.nugwier_programs.proofs.Scopes.{in_scope}
use Rattle.nugwier_programs.proofs.bindings.tell_found.Goals as goal

pub returns : goal.returns
returns g c =
    let said = c.in_ok-tell_files.ensures in
    let split = c.in_ok-files.ensures in (
      said.0,
      said.1 (map searched_file c.args.found.items) (in_scope c.args.found.items c.as_slice-2.result.now c.as_slice.result.now c.in_ok-files.tables.items c.in_ok-objects.objects.items c.as_slice-3.result.now
          (c.as_slice.ensures.value ∙ split.files) (c.as_slice-2.ensures.value ∙ split.files) split.tables c.as_slice-3.ensures.value c.in_ok-objects.ensures),
      said.2,
    )
