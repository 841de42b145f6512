use Rattle.std.proofs.Common.{ℕ, ◌≤◌, length, sym, subst, ◌∙◌, arith}
use Rattle.elf_parts.specs.Note.{note_links, note_view}
use Rattle.elf_parts.proofs.NoteLists.{note_lies}
use Rattle.elf_check.specs.Notes.{notes_end}
use Rattle.elf_check.proofs.NoteEnds.{end_after, end_past, refused_here}
use Rattle.elf_check.proofs.notes.bytes.first_no_note.Goals as goal

pub loop-offset-smaller : goal.loop-offset-smaller
loop-offset-smaller c =
    let inside = note_lies c.args.little c.note_align-step.result c.args.bytes.now c.loop-offset.offset (note_view c.in-Ok.field-0-0, c.in-Ok.next) (sym c.in-Ok.ensures) in
    omega (arith, inside.0, inside.1)

pub loop-offset-preserved : goal.loop-offset-preserved
loop-offset-preserved c =
    sym (end_after c.args.little c.note_align-step.result c.args.bytes.now c.loop-offset.offset (note_view c.in-Ok.field-0-0, c.in-Ok.next) (sym c.in-Ok.ensures))
    ∙ c.loop-offset.invariant

pub returns-in-Err : goal.returns-in-Err
returns-in-Err c =
    refused_here c.args.little c.args.align c.note_align-step.result c.args.bytes.now c.loop-offset.offset c.in-Err.field-0 c.note_align-step.ensures (omega arith) (sym c.in-Err.ensures) c.loop-offset.invariant

pub returns : goal.returns
returns c =
    let bytes = c.args.bytes.now in
    let little = c.args.little in
    let end = end_past little c.note_align-step.result bytes c.loop-offset.offset (omega arith) in
    let same = c.loop-offset.invariant in
    subst (λ (n : ℕ). length bytes ≤ notes_end 0 (note_links little n bytes 0)) c.note_align-step.ensures (omega (arith, end, same))
