use Rattle.std.proofs.Common.{refl}
use Rattle.nugwier_programs.proofs.FirstReason.{first_told}
use Rattle.nugwier_programs.proofs.starts.tell_first.Goals as goal

pub returns : goal.returns
returns g c =
    let told = c.in_ok-loader.ensures.said in
    let held = first_told g.T.Tell.one _ c.tell_kernel.new.tell _ told.0 refl told.2 c.tell-2-1.given.1 in
    (told.0, told.1, c.in_ok-loader.ensures.loader, held.0, held.1)
