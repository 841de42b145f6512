use Rattle.std.proofs.Common.{sym}
use Rattle.elf_linking.proofs.Requirements.{first_given, first_refused}
use Rattle.elf_linking.proofs.versions.first_name.Goals as goal

pub returns-in-Some-Ok : goal.returns-in-Some-Ok
returns-in-Some-Ok g c =
    let step = c.in-Some-Ok.ensures.steps in
    sym (first_given c.args.symbol c.args.hash _ _ step.0 c.in-Some-Ok.name step.1 (rw c.in-Some-Ok.field-0-is at step.2))

pub returns-in-Some-Err : goal.returns-in-Some-Err
returns-in-Some-Err g c =
    let step = c.in-Some-Err.ensures.steps in
    sym (first_refused c.args.symbol c.args.hash _ _ step.0 _ step.1 (rw c.in-Some-Err.field-0-is at step.2))
