-- The build id of a file whose segments and sections can be read: the first among the notes of its segments of type
-- PT_NOTE, and then of its sections of type SHT_NOTE.
use Rattle.std.specs.Prelude.{ℕ, Bool, List, [], ◌∷◌, map, Option, Some, None}
use Rattle.std.specs.Option.{option_and_then, option_or}
use Rattle.std.specs.Result.{result_ok}
use Rattle.elf_parts.specs.Note.{AbiTag, BuildId, NoteContent, Other}
use Rattle.elf_records.specs.declared.section.SectionHeader.{SectionHeader}
use Rattle.elf_records.specs.declared.segment.ProgramHeader.{ProgramHeader}
use Rattle.elf.specs.Answers.{section_data_as_notes}
use Rattle.elf.specs.ObjectFile.{ObjectFile}
use Rattle.elf_check.specs.SegmentsBytes.{notes_of, with_bytes}

-- the first build id among some notes
abbrev pub first_id : List NoteContent → Option (List ℕ)
first_id [] = None
first_id (BuildId id ∷ notes) = Some id
first_id (AbiTag tag ∷ notes) = first_id notes
first_id (Other n_type name descriptor ∷ notes) = first_id notes

-- the first of these that is there
abbrev pub first_some : {A : Type 0} → List (Option A) → Option A
first_some [] = None
first_some (None ∷ rest) = first_some rest
first_some (Some x ∷ rest) = Some x

-- that of a segment with its bytes
abbrev pub segment_id : Bool → ProgramHeader × List ℕ → Option (List ℕ)
segment_id little segment = option_and_then first_id (notes_of little segment)

abbrev pub segments_id : ObjectFile → Option (List ℕ)
segments_id file = first_some (map (segment_id file.little) (with_bytes file file.segments))

-- that of a section; one of another type has no notes
abbrev pub section_id : ObjectFile → SectionHeader → Option (List ℕ)
section_id file s = option_and_then first_id (result_ok (section_data_as_notes file s))

abbrev pub sections_id : ObjectFile → Option (List ℕ)
sections_id file = first_some (map (section_id file) file.sections)

abbrev pub build_id : ObjectFile → Option (List ℕ)
build_id file = option_or (segments_id file) (sections_id file)
