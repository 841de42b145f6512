-- When notes fill their bytes (gABI, chapter "Program Header", "Note Section").
use Rattle.std.specs.Prelude.{◌≡◌, ℕ, ◌<◌, ◌≤◌, nat_lt, Bool, if◌then◌else◌, List, [], ◌∷◌, length, IsErr}
use Rattle.std.specs.Result.{IsOkAnd}
use Rattle.elf_records.specs.declared.section.SectionHeader.{SectionHeader}
use Rattle.elf_parts.specs.Note.{NoteContent, note_at, note_links}
use Rattle.elf.specs.Data.{content}
use Rattle.elf.specs.ObjectFile.{ObjectFile}

-- the alignment by which notes are read that declare this one: core files declare 0 or 1, and mean 4
abbrev pub note_align : ℕ → ℕ
note_align align = if nat_lt align 4 then 4 else align

-- where the note after these would begin, if the first of them begins at o
abbrev pub notes_end : ℕ → List (ℕ × (NoteContent × ℕ)) → ℕ
notes_end o [] = o
notes_end o (link ∷ after) = notes_end link.1.1 after

-- the note after the last one would begin at the end of the bytes or past it
abbrev pub NotesFill : Bool → ℕ → List ℕ → Type 0
NotesFill little align bytes = length bytes ≤ notes_end 0 (note_links little (note_align align) bytes 0)

-- the note after the last one would begin here, before the end, and there is none
pub record IsNoNote (little : Bool) (align : ℕ) (bytes : List ℕ) (offset : ℕ) : Type 0 where
  pub here : notes_end 0 (note_links little (note_align align) bytes 0) ≡ offset
  pub before : offset < length bytes
  pub refused : IsErr (note_at little (note_align align) bytes offset)

-- the notes fill the section
abbrev pub SoundNotes : ObjectFile → SectionHeader → Type 0
SoundNotes file s = IsOkAnd (content file s) (NotesFill file.little s.sh_addralign)
