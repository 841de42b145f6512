use Rattle.std.specs.Prelude.{true}
use Rattle.nugwier_report.specs.Whole.{file_of}
use Rattle.nugwier_report.proofs.linked.is_part.Goals as goal

pub returns : goal.returns
returns g c =
    let file = c.args.file.now in
    c.part_view_as_whole.ensures (file_of (g.R.Headers.file file) (g.R.ListedFile.bytes file)) (g.R.Reader.ranges file) (λ _. true) c.is_part_of_whole.ensures
