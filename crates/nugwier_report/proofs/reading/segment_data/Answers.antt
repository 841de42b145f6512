use Rattle.elf.specs.Readers.{SegmentData}
use Rattle.nugwier_report.proofs.Follows.{read_whole}
use Rattle.nugwier_report.proofs.reading.segment_data.Goals as goal

pub returns : goal.returns
returns g c = read_whole _ _ _ _ _ c.segment_data.ensures.value c.unless_missing.ensures (c.is_part.ensures.answers (SegmentData c.args.phdr.now))
