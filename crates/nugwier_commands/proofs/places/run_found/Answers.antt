use Rattle.std.proofs.Common.{ℕ, List, OnOk, refl, subst}
use Rattle.nugwier_commands.specs.Run.{IsFoundTold, IsProblemSaid}
use Rattle.nugwier_commands.specs.Walk.{unread}
use Rattle.nugwier_commands.specs.inner.Loading.{AreTold}
use Rattle.nugwier_commands.proofs.Lifting.{from_one, then_told}
use Rattle.std.specs.Prelude.{None}
use Rattle.nugwier_commands.specs.Words.{task_of}
use Rattle.nugwier_commands.proofs.places.run_found.Goals as goal

pub returns-in-Unread : goal.returns-in-Unread
returns-in-Unread g c =
    let known = g.F.Files.known c.args.files.now in
    let task = task_of c.args.job.now in
    let heading = c.args.heading in
    let path = c.as_str-in-Unread.result.now in
    let error = c.in-Unread.error in
    rw c.in-Unread.is
    (subst (λ (p : List ℕ). OnOk c.tell_problem.result (AreTold g.R.Run.one (IsFoundTold known task heading (unread p)) c.args.run.now c.tell_problem.new.run)) c.as_str-in-Unread.ensures.value
    (then_told g.R.Run.one c.tell_problem.result _ _ _ (IsFoundTold known task heading (unread path))
    (from_one heading path (IsProblemSaid None) (IsFoundTold known task heading (unread path))
    (λ named said h. (named, said, h, refl)))
    c.tell_problem.ensures))
