-- The bytes of sections and segments as C sees them, and what lies in them.
use Rattle.std.specs.Prelude.{ℕ, ◌==◌, Bool, true, false, if◌then◌else◌, List, Option, Some, None, Result, Err}
use Rattle.elf_abi.specs.Values.{pt_note, sht_note}
use Rattle.elf_records.specs.Number.{ok_map}
use Rattle.elf_records.specs.Table.{Table}
use Rattle.elf_records.specs.declared.compression.CompressionHeader.{CompressionHeader}
use Rattle.elf_records.specs.declared.parse.ParseError.TheVariants.{UnexpectedSegmentType}
use Rattle.elf_records.specs.declared.section.SectionHeader.{SectionHeader}
use Rattle.elf_records.specs.declared.segment.ProgramHeader.{ProgramHeader}
use Rattle.elf.specs.Answers.{segment_data}
use Rattle.elf.specs.Data.{content_of_type}
use Rattle.elf.specs.ObjectFile.{ErrorOf, Extent, FileOf, parsed, table_of}
use Rattle.elf_c.specs.declared.data.NugwierCompression.{NugwierCompression}
use Rattle.elf_c.specs.declared.data.NugwierData.{NugwierData}
use Rattle.elf_c.specs.declared.notes.NugwierNotes.{NugwierNotes}

abbrev pub compression_shown : Option CompressionHeader → NugwierCompression
compression_shown None = record { compressed = false; kind = 0; size = 0; addralign = 0 }
compression_shown (Some h) = record {
  compressed = true;
  kind = h.ch_type;
  size = h.ch_size;
  addralign = h.ch_addralign;
}

-- the bytes of a section, and what its compression header says: as the library has them, and as C sees them
abbrev pub data_shown : List ℕ × Option CompressionHeader → List ℕ × NugwierCompression
data_shown found = (found.0, compression_shown found.1)

abbrev pub data_view_of_c : NugwierData → List ℕ × NugwierCompression
data_view_of_c part = (part.bytes.now, part.compression)

-- the records of a section that has to be of a type
abbrev pub section_records : {x : Extent} → ℕ → FileOf x → SectionHeader → Result Table (ErrorOf x)
section_records t file s = ok_map (table_of file) (content_of_type t file s)

-- ---- notes, by their order, their alignment and the bytes in which they lie

abbrev pub notes_view : NugwierNotes → Bool × ℕ × List ℕ
notes_view notes = (notes.little, notes.align, notes.bytes.now)

abbrev pub notes_with : {x : Extent} → FileOf x → ℕ → List ℕ → Bool × ℕ × List ℕ
notes_with file align bytes = (file.little, align, bytes)

abbrev pub section_notes : {x : Extent} → FileOf x → SectionHeader → Result (Bool × ℕ × List ℕ) (ErrorOf x)
section_notes file s = ok_map (notes_with file s.sh_addralign) (content_of_type sht_note file s)

abbrev pub segment_notes : {x : Extent} → FileOf x → ProgramHeader → Result (Bool × ℕ × List ℕ) (ErrorOf x)
segment_notes file p =
    if p.p_type == pt_note then ok_map (notes_with file p.p_align) (segment_data file p)
    else Err (parsed file (UnexpectedSegmentType (p.p_type, pt_note)))
