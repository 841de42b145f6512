use Rattle.std.proofs.Common.{sym, ap, ◌∙◌}
use Rattle.nugwier_commands.specs.Run.{AreBytesSaid, IsContentSaid, IsElfSaid}
use Rattle.nugwier_commands.proofs.Begun.{one_file}
use Rattle.nugwier_commands.proofs.Lifting.{from_one, then_told}
use Rattle.nugwier_commands.specs.Formats.{front}
use Rattle.nugwier_commands.specs.Words.{task_of}
use Rattle.nugwier_commands.proofs.run.run_data.Goals as goal

pub returns-else-is_archive : goal.returns-else-is_archive
returns-else-is_archive g c =
    let known = g.F.Files.known c.args.files.now in
    let task = task_of c.args.target.job.now in
    let heading = c.args.target.heading in
    let path = c.args.target.path.now in
    let bytes = c.args.data.items in
    then_told g.R.Run.one c.run_one.result _ _ _ (AreBytesSaid known task heading path bytes)
    (from_one heading path (IsElfSaid (IsContentSaid known task.command task path) bytes) (AreBytesSaid known task heading path bytes)
    (λ named said h. one_file known task heading path bytes c.front_in.result.now named said (c.front_in.ensures ∙ ap front c.as_slice.ensures.value) (sym c.is_archive.ensures ∙ c.if-is_archive.false) h)) c.run_one.ensures
