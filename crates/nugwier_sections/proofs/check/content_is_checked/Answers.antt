use Rattle.nugwier_sections.proofs.CheckedContent.{checked_content}
use Rattle.nugwier_sections.proofs.check.content_is_checked.Goals as goal

pub returns : goal.returns
returns g c = λ whole. checked_content g.E.EndianParse.little g.E.EndianParse.of_byte c.args.stream.now whole c.is_part_of_file.ensures c.is_of_file.ensures c.content_has_a_length.ensures
