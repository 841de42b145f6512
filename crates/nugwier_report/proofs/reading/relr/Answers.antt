use Rattle.std.specs.Prelude.{true}
use Rattle.elf.specs.Readers.{SectionData}
use Rattle.nugwier_report.specs.Whole.{file_of}
use Rattle.nugwier_report.proofs.Follows.{relr_follows, read_whole}
use Rattle.nugwier_report.proofs.reading.relr.Goals as goal

pub returns : goal.returns
returns g c =
    let file = c.args.file.now in
    let whole = file_of (g.R.Headers.file file) (g.R.ListedFile.bytes file) in
    read_whole _ _ _ _ _ c.section_data_as_relr.ensures.value c.unless_missing.ensures (relr_follows whole (g.R.Reader.ranges file) (λ _. true) c.args.shdr.now (c.is_part.ensures.answers (SectionData c.args.shdr.now)))
