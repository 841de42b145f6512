use Rattle.std.proofs.Common.{sym}
use Rattle.elf_reading.specs.Leading.{data_view}
use Rattle.elf_records.specs.Number.{ok_map}
use Rattle.nugwier_sections.specs.Contents.{section_said, within}
use Rattle.nugwier_report.proofs.Saying.{saying_nothing}
use Rattle.nugwier_sections.proofs.contents.tell_found.Goals as goal

-- a silent teller stays as it is
pub returns-then-is_silent : goal.returns-then-is_silent
returns-then-is_silent g c =
    sym (saying_nothing g.T.Tell.one c.args.tell.now (section_said c.args.form c.args.number c.args.name.now c.args.section.now (within c.args.left (ok_map data_view c.args.content))) (c.is_silent.ensures.nothing c.if-is_silent.true))
