use Rattle.std.proofs.Common.{sym}
use Rattle.nugwier_notes.specs.AttributeSections.{attributes_in, section_said}
use Rattle.nugwier_report.specs.inner.TypedSections.{section_view}
use Rattle.nugwier_report.proofs.Saying.{saying_nothing}
use Rattle.nugwier_notes.proofs.attribute_sections.tell_section.Goals as goal

-- a silent teller stays as it is
pub returns-then-is_silent : goal.returns-then-is_silent
returns-then-is_silent g c =
    let listed = section_view c.args.section in
    sym (saying_nothing g.T.Tell.one c.args.tell.now (section_said listed.number c.args.name.now (attributes_in c.args.file listed.bytes)) (c.is_silent.ensures.nothing c.if-is_silent.true))
