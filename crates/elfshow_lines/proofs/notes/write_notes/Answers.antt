use Rattle.std.specs.Io.KnownBytes.{Appends}
use Rattle.elf_parts.specs.Note.{note_view, notes_left}
use Rattle.elfshow_lines.specs.Notes.{note_line}
use Rattle.elfshow_lines.proofs.Listing.{given_by}
use Rattle.elfshow_lines.proofs.notes.write_notes.Goals as goal

pub returns : goal.returns
returns g c =
    let written = Appends (g.W.Write.contents c.args.out.now) (g.W.Write.contents c.write_list.new.out) in
    given_by note_view notes_left note_line c.args.notes written c.write_list.result c.write_list.ensures
