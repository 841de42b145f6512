-- What is said of the notes of a file.
use Rattle.std.specs.Prelude.{ℕ, ◌+◌, ◌==◌, nat_lt, if◌then◌else◌, List, [], ◌∷◌, ◌++◌, length, Option, Some, None}
use Rattle.std.specs.Prelude.{Result, Ok, Err, codes}
use Rattle.std.specs.List.{flat_map}
use Rattle.elf_abi.specs.Values.{pt_note, sht_note}
use Rattle.elf_check.specs.Notes.{note_align, notes_end}
use Rattle.elf_check.specs.declared.faults.SectionFault.TheVariants.{NoNote}
use Rattle.elf_parts.specs.Note.{NoteContent, note_links, notes_in}
use Rattle.elf_records.specs.Number.{ok_map}
use Rattle.elf_records.specs.declared.segment.ProgramHeader.{ProgramHeader}
use Rattle.elf.specs.Answers.{segment_data}
use Rattle.elf.specs.ObjectFile.{ObjectFile}
use Rattle.nugwier_report.specs.Headings.{counted_members, known_names}
use Rattle.nugwier_report.specs.Labels.{label_name}
use Rattle.nugwier_report.specs.Reading.{given_said}
use Rattle.nugwier_report.specs.TypedSections.{TypedSection, left_after, sections_of, within}
use Rattle.nugwier_notes.specs.Notes.{notes_said}
use Rattle.nugwier_layouts.specs.Members.{Members, number, number_content}
use Rattle.nugwier_report.specs.Said.{Said, said_if, states, whole, warns}
use Rattle.nugwier_report.specs.declared.problem.Fault.{Fault}
use Rattle.elf_check.specs.Texts.{section_text}
use Rattle.nugwier_report.specs.declared.problem.Part.{Part}
use Rattle.nugwier_report.specs.declared.problem.Part.TheVariants.{Section, Segment}
use Rattle.nugwier_notes.specs.declared.properties.NoteFile.{NoteFile}
use Rattle.nugwier_layouts.specs.Layouts.{constant}
use Rattle.nugwier_layouts.specs.declared.layouts.TheConstants as layout

-- the notes of a part of this file, and their end if they do not fill it
pub record NoteList : Type 0 where
  pub file : NoteFile
  pub notes : List NoteContent
  pub end : Option ℕ

-- there is no note here, before the end of the bytes
abbrev pub end_in : List ℕ → ℕ → Option ℕ
end_in bytes offset = if nat_lt offset (length bytes) then Some offset else None

-- in bytes that declare this alignment
abbrev pub note_list : NoteFile → ℕ → List ℕ → NoteList
note_list file align bytes = record {
  file = file;
  notes = notes_in file.is_little (note_align align) bytes;
  end = end_in bytes (notes_end 0 (note_links file.is_little (note_align align) bytes 0));
}

-- of a file for this machine
abbrev pub note_file : ℕ → ObjectFile → NoteFile
note_file machine file = record { is_little = file.little; class = file.class; machine = machine }

abbrev pub end_said : Part → ℕ → List Said
end_said part offset = warns (whole part) (section_text (NoNote offset)) ∷ []

abbrev pub list_said : Part → NoteList → List Said
list_said part list = notes_said list.file part list.notes ++ said_if (end_said part) list.end

-- ---- what is said

-- how many notes there are, if they are listed
abbrev pub note_count : Result NoteList Fault → Option ℕ
note_count (Ok list) = Some (length list.notes)
note_count (Err fault) = None

-- a heading, and the notes of section k, or why they are not listed
abbrev pub section_notes_said : ℕ → List ℕ → Result NoteList Fault → List Said
section_notes_said k name notes =
    states (constant layout.SECTION_NOTES_HEADING) (counted_members k name (note_count notes))
    ∷ given_said (Section k) (list_said (Section k)) notes

abbrev pub segment_members : ℕ → Option ℕ → Members
segment_members k count = (codes "segment", number k) ∷ (codes "count", number_content count) ∷ []

-- the same of segment k
abbrev pub segment_notes_said : ℕ → Result NoteList Fault → List Said
segment_notes_said k notes =
    states (constant layout.SEGMENT_NOTES_HEADING) (segment_members k (note_count notes))
    ∷ given_said (Segment k) (list_said (Segment k)) notes

-- of a section of a file for this machine that has notes
abbrev pub notes_of_section : ℕ → ObjectFile → TypedSection → List Said
notes_of_section machine file s =
    section_notes_said s.number (label_name (known_names file) s.header)
    (ok_map (note_list (note_file machine file) s.header.sh_addralign) s.bytes)

-- of segment k, if it has notes
abbrev pub segment_notes_in : ℕ → ObjectFile → ℕ → ℕ → ProgramHeader → List Said
segment_notes_in machine file left k p =
    if p.p_type == pt_note
    then segment_notes_said k
    (ok_map (note_list (note_file machine file) p.p_align) (within left (segment_data file p))) else []

abbrev pub after_segment : ObjectFile → ℕ → ProgramHeader → ℕ
after_segment file left p = if p.p_type == pt_note then left_after left (segment_data file p) else left

-- Of segments with the numbers from k on, while this number of bytes are left to list: segments may share their bytes
-- as sections do.
abbrev pub notes_of_segments : ℕ → ObjectFile → ℕ → ℕ → List ProgramHeader → List Said
notes_of_segments machine file left k [] = []
notes_of_segments machine file left k (p ∷ segments) =
    segment_notes_in machine file left k p ++ notes_of_segments machine file (after_segment file left p) (k + 1) segments

abbrev pub said_of_note_sections : ℕ → ObjectFile → List Said
said_of_note_sections machine file = flat_map (notes_of_section machine file) (sections_of file (sht_note ∷ []))

abbrev pub said_of_note_segments : ℕ → ObjectFile → List Said
said_of_note_segments machine file = notes_of_segments machine file file.size 0 file.segments

-- of the sections or, if none are declared, of the segments
abbrev pub said_of_notes : ℕ → ObjectFile → List Said
said_of_notes machine file =
    if file.declares_sections then said_of_note_sections machine file else said_of_note_segments machine file
