use Rattle.std.proofs.lemmas.Result.{on_ok_weaker}
use Rattle.nugwier_programs.specs.Starts.{first_problem, verdict_said}
use Rattle.nugwier_programs.proofs.Verdicts.{verdict_told}
use Rattle.std.proofs.Common.{refl}
use Rattle.nugwier_programs.proofs.starts.tell_linked.Goals as goal

pub returns : goal.returns
returns g c =
    let path = c.args.path.now in
    let first = c.in_ok-is_found.ensures in
    on_ok_weaker c.tell_unless.result
    (λ told. (
      verdict_said path (first_problem first.0),
      (first.0, first.1, refl),
      verdict_told g.T.Tell.one path first.0 c.args.tell.now c.tell_linked_first.new.tell c.tell_unless.new.tell c.in_ok-is_found.is_found first.2 first.3 told,
    )) c.tell_unless.ensures
