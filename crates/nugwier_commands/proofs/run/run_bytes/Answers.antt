use Rattle.elf.specs.ElfBytes.{view}
use Rattle.elf_reading.specs.Opening.{opened_file}
use Rattle.elf_records.specs.Endian.{any_is_little, any_of_byte}
use Rattle.std.proofs.Common.{None}
use Rattle.nugwier_commands.specs.Run.{IsBytesSaid, IsOne, IsViewSaid}
use Rattle.nugwier_commands.specs.inner.Loading.{IsSaidAfter}
use Rattle.nugwier_commands.proofs.Lifting.{one_of, then_told}
use Rattle.nugwier_commands.proofs.Unopened.{opened_said}
use Rattle.nugwier_commands.specs.Words.{task_of}
use Rattle.nugwier_commands.proofs.run.run_bytes.Goals as goal

pub returns-in-Ok : goal.returns-in-Ok
returns-in-Ok g c =
    let task = task_of c.args.target.job.now in
    let heading = c.args.target.heading in
    let path = c.args.target.path.now in
    let bytes = c.args.bytes.now in
    let file = view c.in-Ok.file in
    then_told g.R.Run.one c.run_opened.result _ _ _ (IsOne heading path (IsBytesSaid task path bytes))
    (one_of heading path (IsSaidAfter None (IsViewSaid task path bytes file)) (IsBytesSaid task path bytes)
    (λ named said h. opened_said task path bytes named said file (opened_file any_is_little any_of_byte bytes) c.in-Ok.ensures h)) c.run_opened.ensures
