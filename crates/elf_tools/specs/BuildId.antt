-- The build id of a file: the first among the notes of its segments of type PT_NOTE, and then of its sections of
-- type SHT_NOTE. An error that comes before it is found is the answer.
use Rattle.std.specs.Prelude.{◌≡◌, ℕ, ◌==◌, if◌then◌else◌, List, [], ◌∷◌, Option, Some, None, Result, Ok, Err}
use Rattle.elf_abi.specs.Values.{pt_note, sht_note}
use Rattle.elf_parts.specs.Note.{NoteContent, AbiTag, BuildId, Other}
use Rattle.elf_records.specs.Number.{ok_map}
use Rattle.elf_records.specs.Record.{◌>>=◌}
use Rattle.elf_records.specs.declared.section.SectionHeader.{SectionHeader}
use Rattle.elf_records.specs.declared.segment.ProgramHeader.{ProgramHeader}
use Rattle.elf.specs.Answers.{section_data_as_notes, segment_data_as_notes}
use Rattle.elf.specs.ObjectFile.{ErrorOf, Extent, FileOf, Partial}
use Rattle.elf.specs.declared.read_error.ReadError.TheVariants.{NotLoaded}

abbrev pub first_id : List NoteContent → Option (List ℕ)
first_id [] = None
first_id (BuildId id ∷ notes) = Some id
first_id (AbiTag tag ∷ notes) = first_id notes
first_id (Other n_type name descriptor ∷ notes) = first_id notes

-- what was found, or else the other
abbrev pub or_else : {A X : Type 0} → Result (Option A) X → Option A → Result (Option A) X
or_else other (Some x) = Ok (Some x)
or_else other None = other

-- the first that is found by these headers
abbrev pub first_by : {H A X : Type 0} → (H → Result (Option A) X) → List H → Result (Option A) X
first_by found [] = Ok None
first_by found (h ∷ hs) = found h >>= or_else (first_by found hs)

abbrev pub segment_id : {x : Extent} → FileOf x → ProgramHeader → Result (Option (List ℕ)) (ErrorOf x)
segment_id file p = if p.p_type == pt_note then ok_map first_id (segment_data_as_notes file p) else Ok None

abbrev pub segments_id : {x : Extent} → FileOf x → Result (Option (List ℕ)) (ErrorOf x)
segments_id file = first_by (segment_id file) file.segments

abbrev pub section_id : {x : Extent} → FileOf x → SectionHeader → Result (Option (List ℕ)) (ErrorOf x)
section_id file s = if s.sh_type == sht_note then ok_map first_id (section_data_as_notes file s) else Ok None

abbrev pub sections_id : {x : Extent} → FileOf x → Result (Option (List ℕ)) (ErrorOf x)
sections_id file = first_by (section_id file) file.sections

abbrev pub build_id : {x : Extent} → FileOf x → Result (Option (List ℕ)) (ErrorOf x)
build_id file = segments_id file >>= or_else (sections_id file)

-- the range is missing for the build id of the part
abbrev pub MissesId : FileOf Partial → ℕ × ℕ → Type 0
MissesId part range = build_id part ≡ Err (NotLoaded range)
