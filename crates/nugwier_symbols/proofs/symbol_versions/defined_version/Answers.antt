use Rattle.std.proofs.Common.{arith, not}
use Rattle.std.proofs.lemmas.Grind.{common_steps}
use Rattle.nugwier_symbols.proofs.ShownVersions.{first_is}
use Rattle.nugwier_symbols.proofs.symbol_versions.defined_version.Goals as goal

pub returns-in-Some-Ok : goal.returns-in-Some-Ok
returns-in-Some-Ok g c =
    let (raw, is, gives) = c.in-Some-Ok.ensures.steps in
    let known = first_is (not c.args.definition.hidden) _ _ raw c.in-Some-Ok.field-0 is gives in
    grind (arith, common_steps, known)

pub returns-in-Some-Err : goal.returns-in-Some-Err
returns-in-Some-Err g c =
    let (raw, is, gives) = c.in-Some-Err.ensures.steps in
    let known = first_is (not c.args.definition.hidden) _ _ raw c.in-Some-Err.field-0 is gives in
    grind (arith, common_steps, known)
