use Rattle.elf.specs.Readers.{SectionData}
use Rattle.nugwier_report.proofs.Follows.{read_whole}
use Rattle.nugwier_report.proofs.reading.section_data.Goals as goal

pub returns : goal.returns
returns g c = read_whole _ _ _ _ _ c.section_data.ensures.value c.unless_missing.ensures (c.is_part.ensures.answers (SectionData c.args.shdr.now))
