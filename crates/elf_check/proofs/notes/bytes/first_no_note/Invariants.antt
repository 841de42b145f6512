use Rattle.std.proofs.Common.{◌≡◌, ◌-◌, length}
use Rattle.elf_parts.specs.Note.{note_links}
use Rattle.elf_check.specs.Notes.{notes_end}
use Rattle.elf_check.proofs.notes.bytes.first_no_note.Given as goal

-- the notes end where those end that begin here
abbrev pub invariant-loop-offset : goal.invariant-loop-offset
invariant-loop-offset l = notes_end l.offset (note_links l.little l.step l.bytes l.offset) ≡ notes_end 0 (note_links l.little l.step l.bytes 0)

abbrev pub decreases-loop-offset : goal.decreases-loop-offset
decreases-loop-offset l = length l.bytes - l.offset
