use Rattle.std.proofs.Common.{subst}
use Rattle.std.specs.List.{flat_map}
use Rattle.nugwier_report.proofs.Saying.{then_said}
use Rattle.nugwier_programs.specs.Bindings.{AreAllFilesSaid, search_problem}
use Rattle.nugwier_programs.proofs.bindings.tell_with.Goals as goal

pub returns : goal.returns
returns g c =
    let others = c.in_ok-add_files.ensures in
    let files = c.in_ok-tell_found.ensures in (
      others.0,
      others.1,
      files.0,
      subst (λ l. AreAllFilesSaid l files.0) others.3 files.1,
      then_said g.T.Tell.one c.args.tell.now c.add_files.new.tell c.tell_found.new.tell (flat_map search_problem others.0) files.0 others.2 files.2,
    )
