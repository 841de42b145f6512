use Rattle.std.proofs.Common.{ℕ, List, subst}
use Rattle.nugwier_programs.specs.inner.Opening.{IsLinkedTo}
use Rattle.nugwier_programs.proofs.bindings.opening.load_bytes.Goals as goal

pub returns-in-Ok : goal.returns-in-Ok
returns-in-Ok c = subst (λ (bytes : List ℕ). IsLinkedTo bytes c.in-Ok.file) c.new.ensures.bytes c.in-Ok.ensures
