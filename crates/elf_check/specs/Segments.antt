-- When the segments of a file are sound (gABI, chapters "Program Header" and "Program Loading"): what the program
-- headers declare can be read and can be loaded.
use Rattle.std.specs.Prelude.{◌≡◌, ◌≢◌, ℕ, ◌+◌, ◌-◌, ◌%◌, ◌^◌, ◌<◌, ◌≤◌, ◌==◌, ◌&&◌, ◌||◌, nat_lt, if◌then◌else◌, Bool}
use Rattle.std.specs.Prelude.{true, false, List, [], length, slice_get, Some, Result, Ok, IsOk, IfSome}
use Rattle.std.specs.List.{list_any}
use Rattle.std.specs.Result.{IsOkAnd}
use Rattle.elf_abi.specs.Values.{dt_null, pt_dynamic, pt_interp, pt_load, pt_note, pt_null, pt_phdr, pt_tls}
use Rattle.elf_abi.specs.Values.{sht_dynamic}
use Rattle.elf_records.specs.Class.{address_bits}
use Rattle.elf_records.specs.Dynamic.{dyn_layout, dyn_reads, has_tag}
use Rattle.elf_records.specs.Record.{size_by}
use Rattle.elf_records.specs.declared.file.Class.{Class}
use Rattle.elf_records.specs.declared.parse.ParseError.{ParseError}
use Rattle.elf_records.specs.declared.section.SectionHeader.{SectionHeader}
use Rattle.elf_records.specs.declared.segment.ProgramHeader.{ProgramHeader}
use Rattle.elf.specs.Answers.{segment_data}
use Rattle.elf.specs.Headers.{first_section_of}
use Rattle.elf.specs.ObjectFile.{ObjectFile, records_of}
use Rattle.elf_check.specs.Notes.{NotesFill}

-- ---- the bytes of a segment

-- an unused program header (PT_NULL) says nothing by its other members; a segment whose p_filesz is 0 has no bytes,
-- whatever its p_offset is
abbrev pub has_no_bytes : ProgramHeader → Bool
has_no_bytes p = p.p_type == pt_null || p.p_filesz == 0

-- the bytes of a segment in the file
unfoldable pub segment_bytes : ObjectFile → ProgramHeader → Result (List ℕ) ParseError
segment_bytes file p = if has_no_bytes p then Ok [] else segment_data file p

-- a segment of memory alone: it has no bytes in the file. A file of debug data that was split off another file keeps
-- the program headers of that file and leaves out the bytes, so a segment of any type may be one of memory alone.
abbrev pub is_emptied : ProgramHeader → Bool
is_emptied p = p.p_filesz == 0 && nat_lt 0 p.p_memsz

-- ---- PT_LOAD and PT_TLS

-- there is memory for the bytes of the file
abbrev pub FitsMemory : ProgramHeader → Type 0
FitsMemory p = p.p_filesz ≤ p.p_memsz

-- the address after the last one
abbrev pub memory_end : ProgramHeader → ℕ
memory_end p = p.p_vaddr + p.p_memsz

-- each address of the segment is one of the class
abbrev pub HasAddresses : Class → ProgramHeader → Type 0
HasAddresses class p = memory_end p ≤ 2 ^ address_bits class

-- ---- PT_INTERP

-- there is a last byte, and it is 0
abbrev pub EndsWithNul : List ℕ → Type 0
EndsWithNul bytes = slice_get bytes (length bytes - 1) ≡ Some 0

-- the path of an interpreter
abbrev pub SoundPath : ObjectFile → ProgramHeader → Type 0
SoundPath file p = is_emptied p ≡ false → IsOkAnd (segment_bytes file p) EndsWithNul

-- ---- PT_NOTE

-- the notes fill the segment. Nothing is said if p_align is 0 or 1, which is no alignment: the notes of a core file
-- (ET_CORE), whose p_align is 0 or 1, are aligned to 4 nevertheless.
abbrev pub SoundSegmentNotes : ObjectFile → ProgramHeader → Type 0
SoundSegmentNotes file p = 2 ≤ p.p_align → IsOkAnd (segment_bytes file p) (NotesFill file.little p.p_align)

-- ---- PT_DYNAMIC

-- the bytes are a whole number of entries
abbrev pub IsWhole : Class → ProgramHeader → Type 0
IsWhole class p = p.p_filesz % size_by dyn_layout class ≡ 0

-- one of the entries has the tag DT_NULL, which ends them
abbrev pub has_null : ObjectFile → List ℕ → Bool
has_null file bytes = list_any (has_tag dt_null) (records_of dyn_reads file bytes)

-- a section has the bytes of the segment
abbrev pub IsRangeOf : SectionHeader → ProgramHeader → Type 0
IsRangeOf s p = (s.sh_offset ≡ p.p_offset) × (s.sh_size ≡ p.p_filesz)

-- the dynamic entries end, and a section of type SHT_DYNAMIC has the same ones
pub record SoundDynamicSegment (file : ObjectFile) (p : ProgramHeader) : Type 0 where
  pub whole : IsWhole file.class p
  pub ended : is_emptied p ≡ false → IsOkAnd (segment_bytes file p) (λ bytes. has_null file bytes ≡ true)
  pub same :
      is_emptied p ≡ false → IfSome (first_section_of sht_dynamic file.sections) (λ section. IsRangeOf section p)

-- ---- a segment

-- its bytes lie in the file, and they are sound by its type
pub record SoundSegment (file : ObjectFile) (p : ProgramHeader) : Type 0 where
  pub bytes : IsOk (segment_bytes file p)
  pub load : p.p_type ≡ pt_load → FitsMemory p × HasAddresses file.class p
  pub tls : p.p_type ≡ pt_tls → FitsMemory p
  pub path : p.p_type ≡ pt_interp → SoundPath file p
  pub notes : p.p_type ≡ pt_note → SoundSegmentNotes file p
  pub entries : p.p_type ≡ pt_dynamic → SoundDynamicSegment file p

-- ---- the segments of a file

-- no segment of type `later` comes after one of type `earlier`
abbrev pub NoneFollows : ℕ → ℕ → List ProgramHeader → Type 0
NoneFollows earlier later segments =
    (i k : ℕ) (p q : ProgramHeader) → i < k → slice_get segments i ≡ Some p → slice_get segments k ≡ Some q →
    p.p_type ≡ earlier → q.p_type ≢ later

-- there are not two segments of this type
abbrev pub AtMostOne : ℕ → List ProgramHeader → Type 0
AtMostOne t segments = NoneFollows t t segments

-- the segments of type PT_LOAD before an index are in the order of their addresses, and no two share an address
abbrev pub LoadsRiseBelow : List ProgramHeader → ℕ → Type 0
LoadsRiseBelow segments n =
    (i k : ℕ) (p q : ProgramHeader) → i < k → k < n → slice_get segments i ≡ Some p → slice_get segments k ≡ Some q →
    p.p_type ≡ pt_load → q.p_type ≡ pt_load → memory_end p ≤ q.p_vaddr

-- all of them
abbrev pub LoadsRise : List ProgramHeader → Type 0
LoadsRise segments = LoadsRiseBelow segments (length segments)

-- each segment before an index is sound
abbrev pub SoundBelow : ObjectFile → ℕ → Type 0
SoundBelow file n =
    (i : ℕ) (p : ProgramHeader) → i < n → slice_get file.segments i ≡ Some p → SoundSegment file p

-- each segment
abbrev pub EachSound : ObjectFile → Type 0
EachSound file = SoundBelow file (length file.segments)

-- Each of these types has one segment at most, and PT_PHDR, the table of program headers as a segment, comes before
-- the loaded segments. The gABI demands that PT_INTERP comes before them too. That is not demanded here, since programs
-- that edit files move it, and loaders accept such files.
pub record SoundTypes (segments : List ProgramHeader) : Type 0 where
  pub interp : AtMostOne pt_interp segments
  pub dynamic : AtMostOne pt_dynamic segments
  pub phdr : AtMostOne pt_phdr segments
  pub tls : AtMostOne pt_tls segments
  pub phdr_first : NoneFollows pt_load pt_phdr segments

-- the types are sound, each segment is, and the loaded ones rise
pub record SoundSegments (file : ObjectFile) : Type 0 where
  pub types : SoundTypes file.segments
  pub each : EachSound file
  pub loads : LoadsRise file.segments
