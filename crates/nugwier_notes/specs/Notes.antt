-- What is said of notes (gABI, chapter "Program Loading", "Note Section").
use Rattle.std.specs.Prelude.{ℕ, ◌-◌, ◌==◌, Bool, if◌then◌else◌, List, [], ◌∷◌, Some, codes, drop, length}
use Rattle.std.specs.Prelude.{nat_eq, take}
use Rattle.std.specs.Cmp.Lexicographic.{pointwise}
use Rattle.elf_abi.specs.Names.{name_of}
use Rattle.elf_abi.specs.NoteNames.{note_abi_tag_os_names}
use Rattle.elf_abi.specs.Values.{nt_gnu_abi_tag, nt_gnu_build_id}
use Rattle.elf_names.specs.Notes.{note_type_name}
use Rattle.elf_parts.specs.Note.{AbiTag, BuildId, NoteContent, Other}
use Rattle.elf_parts.specs.declared.note.NoteGnuAbiTag.{NoteGnuAbiTag}
use Rattle.nugwier_notes.specs.Descriptors.{descriptor_said}
use Rattle.nugwier_report.specs.Parts.{part_member}
use Rattle.nugwier_layouts.specs.Members.{Members, bytes, number, text, word}
use Rattle.nugwier_report.specs.Said.{Said, numbered, states}
use Rattle.nugwier_report.specs.declared.problem.Part.{Part}
use Rattle.nugwier_notes.specs.declared.properties.NoteFile.{NoteFile}
use Rattle.nugwier_layouts.specs.Layouts.{constant}
use Rattle.nugwier_layouts.specs.declared.layouts.TheConstants as layout

-- a name ends in a 0 byte, which belongs to its size
abbrev pub ends_in_nul : List ℕ → Bool
ends_in_nul name = pointwise (λ a b. a == b) (drop (length name - 1) name) (0 ∷ [])

abbrev pub without_nul : List ℕ → List ℕ
without_nul name = if ends_in_nul name then take (length name - 1) name else name

-- note i of a section or of a segment
abbrev pub abi_tag_members : Part → ℕ → NoteGnuAbiTag → Members
abi_tag_members part i tag =
    part_member part
    ∷ (codes "index", number i)
    ∷ (codes "n_type", number nt_gnu_abi_tag)
    ∷ (codes "n_type_name", word (Some (codes "NT_GNU_ABI_TAG")))
    ∷ (codes "name", word (Some (codes "GNU")))
    ∷ (codes "os", number tag.os)
    ∷ (codes "os_name", word (name_of nat_eq note_abi_tag_os_names tag.os))
    ∷ (codes "major", number tag.major)
    ∷ (codes "minor", number tag.minor)
    ∷ (codes "subminor", number tag.subminor)
    ∷ []

abbrev pub build_id_members : Part → ℕ → List ℕ → Members
build_id_members part i id =
    part_member part
    ∷ (codes "index", number i)
    ∷ (codes "n_type", number nt_gnu_build_id)
    ∷ (codes "n_type_name", word (Some (codes "NT_GNU_BUILD_ID")))
    ∷ (codes "name", word (Some (codes "GNU")))
    ∷ (codes "desc", bytes id)
    ∷ []

abbrev pub other_members : Part → ℕ → ℕ → List ℕ → List ℕ → Members
other_members part i n_type name descriptor =
    part_member part
    ∷ (codes "index", number i)
    ∷ (codes "n_type", number n_type)
    ∷ (codes "n_type_name", word (note_type_name (without_nul name) n_type))
    ∷ (codes "name", text (Some (without_nul name)))
    ∷ (codes "desc", bytes descriptor)
    ∷ []

abbrev pub abi_tag_said : Part → ℕ → NoteGnuAbiTag → List Said
abi_tag_said part i tag = states (constant layout.ABI_TAG_NOTE) (abi_tag_members part i tag) ∷ []

-- a note, and what its descriptor holds
abbrev pub note_said : NoteFile → Part → ℕ → NoteContent → List Said
note_said file part i (AbiTag tag) = abi_tag_said part i tag
note_said file part i (BuildId id) = states (constant layout.BUILD_ID_NOTE) (build_id_members part i id) ∷ []
note_said file part i (Other n_type name descriptor) =
    states (constant layout.NOTE) (other_members part i n_type name descriptor) ∷ descriptor_said file part i n_type name descriptor

-- each, with its number
abbrev pub notes_said : NoteFile → Part → List NoteContent → List Said
notes_said file part notes = numbered (note_said file part) 0 notes
