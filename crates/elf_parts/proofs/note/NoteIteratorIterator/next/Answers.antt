-- A note that fits is the first that was left; after one that does not, nothing is left.
use Rattle.std.proofs.Common.{ℕ, length, map, ap, sym, arith}
use Rattle.elf_parts.specs.Note.{NoteContent, note_view}
use Rattle.elf_parts.proofs.NoteLists.{note_first, note_none, note_refused}
use Rattle.elf_parts.proofs.note.NoteIteratorIterator.next.Goals as goal

pub returns-in-Ok-clause-steps : goal.returns-in-Ok-clause-steps
returns-in-Ok-clause-steps g c =
    let s = c.args.self.now in
    ap (map (λ (link : ℕ × (NoteContent × ℕ)). link.1.0))
    (note_first s.little s.align s.«data».now s.offset (note_view c.in-Ok.note, c.in-Ok.next) (sym c.in-Ok.ensures))

pub returns-in-Ok-clause-goes : goal.returns-in-Ok-clause-goes
returns-in-Ok-clause-goes g c =
    let fewer = ap length (returns-in-Ok-clause-steps g c) in
    record { on = λ _. (tt, tt, omega (arith, fewer)); keeps = tt; rests = λ _. tt }

pub returns-in-Err-clause-steps : goal.returns-in-Err-clause-steps
returns-in-Err-clause-steps g c =
    let s = c.args.self.now in (
      ap (map (λ (link : ℕ × (NoteContent × ℕ)). link.1.0))
          (note_refused s.little s.align s.«data».now s.offset c.in-Err.field-0 (sym c.in-Err.ensures)),
      ap (map (λ (link : ℕ × (NoteContent × ℕ)). link.1.0)) (note_none s.little s.align s.offset),
    )
