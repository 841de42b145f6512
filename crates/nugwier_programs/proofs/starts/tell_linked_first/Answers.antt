use Rattle.std.proofs.Common.{refl}
use Rattle.nugwier_programs.proofs.FirstReason.{first_told}
use Rattle.nugwier_programs.proofs.starts.tell_linked_first.Goals as goal

pub returns : goal.returns
returns g c =
    let told = c.in_ok-tell_reasons.ensures in
    let held = first_told g.T.Tell.one _ c.tell_reasons.new.tell _ told.0 refl told.2 c.tell-2-1.given.1 in
    (told.0, told.1, held.0, held.1)
