use Rattle.std.specs.Prelude.{true}
use Rattle.nugwier_report.specs.Whole.{file_of}
use Rattle.nugwier_report.proofs.Follows.{read_whole}
use Rattle.nugwier_report.proofs.reading.build_id.Goals as goal

pub returns : goal.returns
returns g c =
    let file = c.args.file.now in
    let whole = file_of (g.R.Headers.file file) (g.R.ListedFile.bytes file) in
    read_whole _ _ _ _ _ c.build_id.ensures.value c.unless_missing.ensures (c.part_build_id_as_whole.ensures.part whole (g.R.Reader.ranges file) (λ _. true) c.is_part.ensures.part)
