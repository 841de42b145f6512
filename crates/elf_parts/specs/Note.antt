-- Notes (gABI, chapter "Program Header", "Note Section"): a header, a name and a descriptor.
use Rattle.std.specs.Prelude.{◌≡◌, ◌≢◌, ◌++◌, refl, MatchResult, IsUtf8, ◌≤◌, ℕ, ◌+◌, ◌-◌, ◌*◌, ◌%◌, ◌^◌, Bool}
use Rattle.std.specs.Prelude.{if◌then◌else◌, ◌==◌, ◌&&◌, ◌||◌, nat_le, Some, List, [], ◌∷◌, length, map, take}
use Rattle.std.specs.Prelude.{slice_index, Result, Ok, Err}
use Rattle.std.specs.Cmp.Lexicographic.{pointwise}
use Rattle.std.specs.List.{repeat}
use Rattle.std.specs.Int.{next_multiple_of}
use Rattle.elf_abi.specs.Values.{nt_gnu_abi_tag, nt_gnu_build_id}
use Rattle.elf_parts.specs.Link.{AreLinked, links}
use Rattle.elf_records.specs.Number.{bytes_at, ok_map}
use Rattle.elf_records.specs.Record.{◌>>=◌, Field, field, Layout, record_by, RecordType}
use Rattle.elf_records.specs.StringTable.{GivesText}
use Rattle.elf_records.specs.inner.RecordLaws.{by_layout}
use Rattle.elf_records.specs.declared.file.Class.TheVariants.{ELF32}
use Rattle.elf_parts.specs.declared.note.Note.{Note}
use Rattle.elf_parts.specs.declared.note.Note.TheVariants.{GnuAbiTag, GnuBuildId, Unknown}
use Rattle.elf_parts.specs.declared.note.NoteGnuAbiTag.{NoteGnuAbiTag}
use Rattle.elf_parts.specs.declared.note.NoteHeader.{NoteHeader}
use Rattle.elf_parts.specs.declared.note.NoteIterator.{NoteIterator}
use Rattle.elf_records.specs.declared.parse.ParseError.{ParseError}
use Rattle.elf_records.specs.declared.parse.ParseError.TheVariants.{IntegerOverflow}
use denote.Ref.{Bor}

-- ---- the field tables, which are the same in both classes

abbrev pub note_header_fields : List Field
note_header_fields =
    field 0 4 ∷  -- namesz
    field 4 4 ∷  -- descsz
    field 8 4 ∷  -- type
    []

abbrev pub note_header : List ℕ → NoteHeader
note_header n = record {
  n_namesz = slice_index n 0;
  n_descsz = slice_index n 1;
  n_type = slice_index n 2;
}

abbrev pub note_header_layout : Layout NoteHeader
note_header_layout = record { fields = λ _. note_header_fields; make = λ _. note_header }

abbrev pub note_header_reads : RecordType NoteHeader
note_header_reads = by_layout note_header_layout refl

-- the descriptor of an ABI tag
abbrev pub abi_tag_fields : List Field
abi_tag_fields =
    field 0 4 ∷  -- os
    field 4 4 ∷  -- major
    field 8 4 ∷  -- minor
    field 12 4 ∷  -- subminor
    []

abbrev pub abi_tag : List ℕ → NoteGnuAbiTag
abi_tag n = record {
  os = slice_index n 0;
  major = slice_index n 1;
  minor = slice_index n 2;
  subminor = slice_index n 3;
}

abbrev pub abi_tag_layout : Layout NoteGnuAbiTag
abi_tag_layout = record { fields = λ _. abi_tag_fields; make = λ _. abi_tag }

abbrev pub abi_tag_reads : RecordType NoteGnuAbiTag
abi_tag_reads = by_layout abi_tag_layout refl

-- ---- what a note says

-- an ABI tag, the bytes of a build id, or the type, the name and the descriptor of any other note
pub data NoteContent : Type 0 where
  AbiTag : NoteGnuAbiTag → NoteContent
  BuildId : List ℕ → NoteContent
  Other : ℕ → List ℕ → List ℕ → NoteContent

-- the name is "GNU", with the 0 byte that ends it
abbrev pub is_gnu : List ℕ → Bool
is_gnu name = pointwise (λ a b. a == b) name (71 ∷ 78 ∷ 85 ∷ 0 ∷ [])

-- what a note of this type, name and descriptor says; an error for a tag whose descriptor is too short
unfoldable pub content_of : Bool → ℕ → List ℕ → List ℕ → Result NoteContent ParseError
content_of little n_type name descriptor =
    if is_gnu name && n_type == nt_gnu_abi_tag then ok_map AbiTag (record_by abi_tag_layout little ELF32 descriptor 0)
    else if is_gnu name && n_type == nt_gnu_build_id then Ok (BuildId descriptor)
    else Ok (Other n_type name descriptor)

-- ---- where a note lies

-- the least multiple of the alignment that is not below o; an error if there is none, or none of 64 bits
unfoldable pub aligned_offset : ℕ → ℕ → Result ℕ ParseError
aligned_offset align o =
    if align == 0 || nat_le (2 ^ 64) (next_multiple_of o align) then Err IntegerOverflow
    else Ok (next_multiple_of o align)

-- y is the least multiple of the alignment that is not below x
abbrev pub IsLeastMultiple : ℕ → ℕ → ℕ → Type 0
IsLeastMultiple align x y = (y % align ≡ 0) × (x ≤ y) × ((k : ℕ) → x ≤ k * align → y ≤ k * align)

-- the note at o, and where the next one begins, or why it does not fit: the header, the name after it, the
-- descriptor from the next multiple of the alignment on, counted from the start of the data, and the next note from
-- the next multiple after that
unfoldable pub note_at : Bool → ℕ → List ℕ → ℕ → Result (NoteContent × ℕ) ParseError
note_at little align bytes o =
    record_by note_header_layout little ELF32 bytes o >>= λ header.
    bytes_at header.n_namesz bytes (o + 12) >>= λ name.
    aligned_offset align (o + 12 + header.n_namesz) >>= λ start.
    bytes_at header.n_descsz bytes start >>= λ descriptor.
    aligned_offset align (start + header.n_descsz) >>= λ next.
    content_of little header.n_type name descriptor >>= λ note.
    Ok (note, next)

-- the notes starting at o with their offsets, each later one at the offset that the one before it gives, up to one that
-- does not fit; since a note has a byte at least, there are no more notes than bytes
unfoldable pub note_links : Bool → ℕ → List ℕ → ℕ → List (ℕ × (NoteContent × ℕ))
note_links little align bytes o = links (note_at little align bytes) (λ _ note. Some note.1) (length bytes - o) o

-- these are all notes of the bytes: the first begins at 0, each is the one at its offset, and each later one begins at
-- the offset that the one before it gives; and any other notes with these properties are the front of these
abbrev pub AreAllNotes : Bool → ℕ → List ℕ → List (ℕ × (NoteContent × ℕ)) → Type 0
AreAllNotes little align bytes list =
    AreLinked (note_at little align bytes) (λ _ note. Some note.1) (Some 0) list
    × ((others : List (ℕ × (NoteContent × ℕ))) →
    AreLinked (note_at little align bytes) (λ _ note. Some note.1) (Some 0) others → others ≡ take (length others) list)

-- what the notes say, starting at o
abbrev pub notes_from : Bool → ℕ → List ℕ → ℕ → List NoteContent
notes_from little align bytes o = map (λ (link : ℕ × (NoteContent × ℕ)). link.1.0) (note_links little align bytes o)

-- what the notes of these bytes say
abbrev pub notes_in : Bool → ℕ → List ℕ → List NoteContent
notes_in little align bytes = notes_from little align bytes 0

-- ---- a name as text

-- the text is the name without the 0 bytes at its end: after it there are only 0 bytes, and it does not end in one
abbrev pub IsWithoutNuls : List ℕ → List ℕ → Type 0
IsWithoutNuls name text = ((n : ℕ) × (name ≡ text ++ repeat n (0 ∷ []))) × ((front : List ℕ) → text ≢ front ++ 0 ∷ [])

-- the name as text, without the 0 bytes at its end, or that it is no text
abbrev pub GivesNameText : List ℕ → Result (Bor (List ℕ)) ParseError → Type 0
GivesNameText name result =
    MatchResult result (λ text. IsUtf8 name × IsWithoutNuls name text.now) (λ e. GivesText (Ok name) (Err e))

-- ---- the view of the structs

-- what a note says
abbrev pub note_view : Note → NoteContent
note_view (GnuAbiTag tag) = AbiTag tag
note_view (GnuBuildId id) = BuildId id.0.now
note_view (Unknown note) = Other note.n_type note.name.now note.desc.now

-- the same of a note with the offset of the next one
abbrev pub note_and_next_view : Note × ℕ → NoteContent × ℕ
note_and_next_view found = (note_view found.0, found.1)

-- what the notes say that an iterator has left to yield
abbrev pub notes_left : {E : Type 0} → NoteIterator E → List NoteContent
notes_left s = notes_from s.little s.align s.«data».now s.offset
