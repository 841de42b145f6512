use Rattle.std.proofs.Common.{rules, ◌≡◌, ◌+◌, ◌<◌, ℕ, Ok, length, arith}
use Rattle.elf_parts.specs.Note.{NoteContent, note_and_next_view}
use Rattle.elf_c.specs.Notes.{IsShown, note_from, note_of_c}
use Rattle.elf_c.proofs.Filling.{one_read}
use Rattle.elf_c.proofs.NoteFilling.{after_more, note_there}
use Rattle.elf_c.proofs.notes.nugwier_note_list.Goals as goal

pub loop-count-preserved : goal.loop-count-preserved
loop-count-preserved c =
    let n = c.loop-count.count in
    let xs = c.loop-count.places in
    let notes = c.args.notes.now in
    let o = c.args.offset.now in
    let at = c.loop-count.offset in
    let kept = c.loop-count.invariant in
    let found : NoteContent × ℕ = note_and_next_view (c.in-Ok.note, c.in-Ok.next) in
    let within : n < length xs = search rules in
    let read : note_of_c notes at ≡ Ok found = search rules in
    record {
      read = one_read IsShown (note_from notes o) 0 n c.args.places.now xs found c.note_shown.result within kept.read
          (note_there notes o (0 + n) n at found (omega arith) kept.reached read) c.note_shown.ensures;
      reached = after_more notes o n at found kept.reached read;
    }
