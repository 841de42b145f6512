use Rattle.std.proofs.Common.{length, ◌-◌, ◌≡◌, Ok}
use Rattle.elf_c.specs.Filled.{AreRead}
use Rattle.elf_c.specs.Notes.{IsShown, note_after, note_from}
use Rattle.elf_c.proofs.notes.nugwier_note_list.Given as goal

-- the places so far show the notes of the bytes
abbrev pub invariant-loop-count : goal.invariant-loop-count
invariant-loop-count l = record {
  read : AreRead IsShown (note_from l.notes l.initial.offset) 0 l.count l.initial.places l.places;
  reached : note_after l.notes l.count l.initial.offset ≡ Ok l.offset;
}

abbrev pub decreases-loop-count : goal.decreases-loop-count
decreases-loop-count l = length l.initial.places - l.count
