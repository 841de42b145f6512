-- What was told, of what may be said.
use Rattle.std.proofs.Common.{refl, ◌≡◌, Bool, true, false, List, [], ◌∷◌, Result, Ok, Err, ap, sym, ◌∙◌, true≢false}
use Rattle.std.proofs.lemmas.Result.{on_ok_weaker}
use Rattle.std.specs.Prelude.{OnOk}
use Rattle.nugwier_report.specs.Said.{IsToldAs, Said, saying, wrong}
use Rattle.nugwier_report.specs.declared.problem.Fault.{Fault}
use Rattle.nugwier_report.specs.declared.problem.Place.{Place}

module _ {A B C : Type 0} (silent : A → Bool) (one : A → Said → A) (before after : A) (r : Result B C) where
  -- in any of several ways
  pub told_as : (IsSaid : List Said → Type 0) → OnOk r ((said : List Said) × IsSaid said × (after ≡ saying one before said)) → OnOk r (IsToldAs silent one IsSaid before after)
  told_as IsSaid told = on_ok_weaker r (λ h is. h) told

  -- where there is one way
  pub told_only : (only : List Said) → OnOk r (after ≡ saying one before only) → OnOk r (IsToldAs silent one (λ said. said ≡ only) before after)
  told_only only told = on_ok_weaker r (λ h is. (only, refl, h)) told

  -- a problem
  pub told_wrong : (at place : Place) (fault : Fault) → at ≡ place → OnOk r (after ≡ one before (wrong at fault)) → OnOk r (IsToldAs silent one (λ said. said ≡ wrong place fault ∷ []) before after)
  told_wrong at place fault same told = on_ok_weaker r (λ h is. (wrong place fault ∷ [], refl, h ∙ ap (λ (p : Place). one before (wrong p fault)) same)) told

-- something comes of what is told
pub not_silent : {A B C : Type 0} (silent : A → Bool) (one : A → Said → A) (before after : A) (r : Result B C) → silent before ≡ false → OnOk r (silent before ≡ true → (said : List Said) → after ≡ saying one before said)
not_silent silent one before after (Ok x) heard = λ is. absurd (true≢false (sym is ∙ heard))
not_silent silent one before after (Err e) heard = tt
