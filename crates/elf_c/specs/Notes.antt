-- Notes as C sees them.
use Rattle.std.specs.Prelude.{◌≡◌, ℕ, zero, suc, List, [], Result, Ok, Err}
use Rattle.elf_abi.specs.Values.{nt_gnu_abi_tag, nt_gnu_build_id}
use Rattle.elf_parts.specs.Note.{AbiTag, BuildId, NoteContent, Other, note_at}
use Rattle.elf_parts.specs.declared.note.NoteGnuAbiTag.{NoteGnuAbiTag}
use Rattle.elf_records.specs.Number.{ok_map}
use Rattle.elf_records.specs.Record.{◌>>=◌}
use Rattle.elf_records.specs.declared.parse.ParseError.{ParseError}
use Rattle.elf_c.specs.declared.notes.NugwierAbiTag.{NugwierAbiTag}
use Rattle.elf_c.specs.declared.notes.NugwierNote.{NugwierNote}
use Rattle.elf_c.specs.declared.notes.NugwierNotes.{NugwierNotes}

-- the note at an offset, with the offset of the next one
abbrev pub note_of_c : NugwierNotes → ℕ → Result (NoteContent × ℕ) ParseError
note_of_c notes o = note_at notes.little notes.align notes.bytes.now o

abbrev pub tag_of : NoteGnuAbiTag → NugwierAbiTag
tag_of t = record { os = t.os; major = t.major; minor = t.minor; subminor = t.subminor }

abbrev pub no_tag : NugwierAbiTag
no_tag = record { os = 0; major = 0; minor = 0; subminor = 0 }

-- the fields of the struct
abbrev pub HasFields : NugwierNote → ℕ → NugwierAbiTag → ℕ → List ℕ → List ℕ → Type 0
HasFields note kind tag n_type name desc =
    (note.kind ≡ kind) × (note.tag ≡ tag) × (note.n_type ≡ n_type) × (note.name.now ≡ name) × (note.desc.now ≡ desc)

-- the struct shows this note
abbrev pub IsNote : NugwierNote → NoteContent → Type 0
IsNote note (AbiTag tag) = HasFields note 1 (tag_of tag) nt_gnu_abi_tag [] []
IsNote note (BuildId id) = HasFields note 2 no_tag nt_gnu_build_id [] id
IsNote note (Other n_type name desc) = HasFields note 0 no_tag n_type name desc

-- what a call wrote, before which the second was there
abbrev pub IsNoteWritten : NugwierNote → NugwierNote → Result (NoteContent × ℕ) ParseError → Type 0
IsNoteWritten new old (Err e) = new ≡ old
IsNoteWritten new old (Ok found) = IsNote new found.0

-- ---- many notes

-- the offset after the note at an offset
abbrev pub next_note : NugwierNotes → ℕ → Result ℕ ParseError
next_note notes o = ok_map (λ found. found.1) (note_of_c notes o)

-- the offset after n notes, the first at o
abbrev pub note_after : NugwierNotes → ℕ → ℕ → Result ℕ ParseError
note_after notes zero o = Ok o
note_after notes (suc n) o = note_after notes n o >>= next_note notes

-- note i of those that begin at o, with the offset of the next one
abbrev pub note_from : NugwierNotes → ℕ → ℕ → Result (NoteContent × ℕ) ParseError
note_from notes o i = note_after notes i o >>= note_of_c notes

-- a place shows a note
abbrev pub IsShown : NoteContent × ℕ → NugwierNote → Type 0
IsShown found place = IsNote place found.0
