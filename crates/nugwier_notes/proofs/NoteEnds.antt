-- Where notes end that do not fill their bytes.
use Rattle.std.proofs.Common.{◌≡◌, ℕ, Bool, List, length, Option, Some, None, refl}
use Rattle.std.proofs.lemmas.Bool.{le-ltb, lt-ltb}
use Rattle.std.specs.Option.{MatchOption}
use Rattle.elf_check.specs.Notes.{IsNoNote, NotesFill, note_align, notes_end}
use Rattle.elf_parts.specs.Note.{note_links}
use Rattle.nugwier_notes.specs.NoteSections.{end_in}

pub end_found : (little : Bool) (align : ℕ) (bytes : List ℕ) (found : Option ℕ) → MatchOption found (NotesFill little align bytes) (IsNoNote little align bytes) → found ≡ end_in bytes (notes_end 0 (note_links little (note_align align) bytes 0))
end_found little align bytes None fill = rw (le-ltb (notes_end 0 (note_links little (note_align align) bytes 0)) (length bytes) fill) refl
end_found little align bytes (Some o) ended = rw (ended.here, lt-ltb o (length bytes) ended.before) refl
