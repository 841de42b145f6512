-- The verdict on a program by its reasons.
use Rattle.std.proofs.Common.{◌≡◌, ◌∙◌, ℕ, Bool, List, ap, is_some}
use Rattle.nugwier_report.proofs.Saying.{then_said}
use Rattle.nugwier_report.specs.Said.{Said, saying}
use Rattle.nugwier_programs.specs.Starts.{first_problem, first_said, none_said, verdict_said}

-- the reason, and then that there is none
pub verdict_told : {T : Type 0} (one : T → Said → T) (path : List ℕ) (reasons : List Said) (old middle new : T) (found : Bool) → found ≡ is_some (first_problem reasons)
    → middle ≡ saying one old (first_said (first_problem reasons)) → new ≡ saying one middle (none_said path found) → new ≡ saying one old (verdict_said path (first_problem reasons))
verdict_told one path reasons old middle new found is first last =
    then_said one old middle new (first_said (first_problem reasons)) (none_said path (is_some (first_problem reasons))) first (last ∙ ap (λ (b : Bool). saying one middle (none_said path b)) is)
