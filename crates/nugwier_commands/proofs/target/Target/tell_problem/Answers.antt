use Rattle.std.proofs.Common.{[], ◌∷◌, ◌≡◌, List, refl}
use Rattle.std.proofs.lemmas.Result.{on_ok_weaker}
use Rattle.nugwier_commands.specs.Run.{IsProblemSaid}
use Rattle.nugwier_commands.proofs.Lifting.{told_under}
use Rattle.nugwier_report.specs.Labels.{no_sections}
use Rattle.nugwier_report.specs.Said.{Said, warns, whole}
use Rattle.nugwier_report.specs.declared.problem.Part.TheVariants.{File}
use Rattle.nugwier_commands.proofs.target.Target.tell_problem.Goals as goal

pub returns : goal.returns
returns g c =
    let target = c.args.self.now in
    let heading = target.heading in
    let path = target.path.now in
    let said = warns (whole File) (g.D.Display.output c.args.fault.now) ∷ [] in
    told_under g.R.Run.one c.tell_wrong.result heading path (IsProblemSaid (g.D.Display.output c.args.fault.now)) (λ (s : List Said). s ≡ said) no_sections _ c.tell_wrong.new.tell _
    refl (λ s is. (refl, is)) (on_ok_weaker c.tell_wrong.result (λ told. (said, refl, told)) c.tell_wrong.ensures) c.run-1.given.1
