-- Contents that may not be known.
use Rattle.std.proofs.Common.{◌≡◌, Option, Some, None, refl, subst}
use Rattle.std.specs.Prelude.{IfSome}

pub if_known : {X : Type 0} (o : Option X) (x : X) (P : X → Type 0) → IfSome o P → o ≡ Some x → P x
if_known None x P h e = absurd (cc e)
if_known (Some y) x P h e = let same : y ≡ x = cc in subst P same h

pub when_known : {X : Type 0} (o : Option X) (P : X → Type 0) → ((x : X) → o ≡ Some x → P x) → IfSome o P
when_known None P h = tt
when_known (Some x) P h = h x refl
