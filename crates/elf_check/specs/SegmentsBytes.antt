-- Segments with their bytes, as lists.
use Rattle.std.specs.Prelude.{ℕ, ◌==◌, Bool, if◌then◌else◌, List, [], map, Option, Some, None}
use Rattle.std.specs.Result.{result_unwrap_or}
use Rattle.elf_abi.specs.Values.{pt_note}
use Rattle.elf_parts.specs.Note.{NoteContent, notes_in}
use Rattle.elf_records.specs.declared.segment.ProgramHeader.{ProgramHeader}
use Rattle.elf.specs.ObjectFile.{ObjectFile}
use Rattle.elf_check.specs.Segments.{segment_bytes}

-- the bytes of a segment that can be read
abbrev pub bytes_of : ObjectFile → ProgramHeader → List ℕ
bytes_of file p = result_unwrap_or (segment_bytes file p) []

-- segments, each with its bytes
abbrev pub with_bytes : ObjectFile → List ProgramHeader → List (ProgramHeader × List ℕ)
with_bytes file segments = map (λ p. (p, bytes_of file p)) segments

-- the notes of a segment of type PT_NOTE; the alignment is p_align
abbrev pub notes_of : Bool → ProgramHeader × List ℕ → Option (List NoteContent)
notes_of little segment =
    if segment.0.p_type == pt_note then Some (notes_in little segment.0.p_align segment.1) else None
