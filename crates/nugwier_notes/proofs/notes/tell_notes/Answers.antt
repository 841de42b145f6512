use Rattle.std.proofs.Common.{◌≡◌}
use Rattle.elf_parts.specs.Note.{note_view, notes_left}
use Rattle.nugwier_report.proofs.Listing.{given_by}
use Rattle.nugwier_notes.specs.Notes.{note_said}
use Rattle.nugwier_report.specs.Said.{saying}
use Rattle.nugwier_notes.proofs.notes.tell_notes.Goals as goal

pub returns : goal.returns
returns g c =
    given_by note_view notes_left (note_said c.args.file c.args.part) c.args.notes (λ said. c.tell_items.new.tell ≡ saying g.T.Tell.one c.args.tell.now said) c.tell_items.result c.tell_items.ensures
