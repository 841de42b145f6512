-- Notes that are read in turn.
use Rattle.std.proofs.Common.{◌≡◌, ℕ, suc, ◌+◌, Result, Ok, sym, subst, ◌∙◌, ap, arith}
use Rattle.elf_records.specs.Number.{ok_map}
use Rattle.elf_records.specs.Record.{◌>>=◌}
use Rattle.elf_parts.specs.Note.{NoteContent}
use Rattle.elf_records.specs.declared.parse.ParseError.{ParseError}
use Rattle.elf_c.specs.Notes.{next_note, note_after, note_from, note_of_c}
use Rattle.elf_c.specs.declared.notes.NugwierNotes.{NugwierNotes}

-- the note at the offset that is reached
pub note_there : (notes : NugwierNotes) (o i n at : ℕ) (found : NoteContent × ℕ) → n ≡ i → note_after notes n o ≡ Ok at →
    note_of_c notes at ≡ Ok found → note_from notes o i ≡ Ok found
note_there notes o i n at found same reached read =
    subst (λ k. note_from notes o k ≡ Ok found) same
    (ap (λ (r : Result ℕ ParseError). r >>= note_of_c notes) reached ∙ read)

-- the offset after one more note
pub after_more : (notes : NugwierNotes) (o n at : ℕ) (found : NoteContent × ℕ) → note_after notes n o ≡ Ok at →
    note_of_c notes at ≡ Ok found → note_after notes (n + 1) o ≡ Ok found.1
after_more notes o n at found reached read =
    let next : n + 1 ≡ suc n = omega arith in
    let P : ℕ → Type 0 = λ m. note_after notes m o ≡ Ok found.1 in
    let one : P (suc n) =
    ap (λ (r : Result ℕ ParseError). r >>= next_note notes) reached
    ∙ ap (λ (r : Result (NoteContent × ℕ) ParseError). ok_map (λ (f : NoteContent × ℕ). f.1) r) read in
    subst P (sym next) one
