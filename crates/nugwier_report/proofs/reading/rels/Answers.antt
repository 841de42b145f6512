use Rattle.elf.specs.Readers.{SectionDataAsRels}
use Rattle.nugwier_report.proofs.Follows.{read_whole}
use Rattle.nugwier_report.proofs.reading.rels.Goals as goal

pub returns : goal.returns
returns g c = read_whole _ _ _ _ _ c.section_data_as_rels.ensures.value c.unless_missing.ensures (c.is_part.ensures.answers (SectionDataAsRels c.args.shdr.now))
