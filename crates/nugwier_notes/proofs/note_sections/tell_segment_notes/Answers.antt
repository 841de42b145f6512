use Rattle.std.proofs.Common.{sym}
use Rattle.elf_records.specs.Number.{ok_map}
use Rattle.nugwier_notes.specs.NoteSections.{note_list, segment_notes_said}
use Rattle.nugwier_report.proofs.Saying.{saying_nothing}
use Rattle.nugwier_notes.proofs.note_sections.tell_segment_notes.Goals as goal

-- a silent teller stays as it is
pub returns-then-is_silent : goal.returns-then-is_silent
returns-then-is_silent g c =
    sym (saying_nothing g.T.Tell.one c.args.tell.now (segment_notes_said c.args.number (ok_map (note_list c.args.file c.args.align) (ok_map (λ bytes. bytes.now) c.args.bytes))) (c.is_silent.ensures.nothing c.if-is_silent.true))
