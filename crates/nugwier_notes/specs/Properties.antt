-- The properties of the code of a file (Linux Extensions to gABI, section "Program Property"), which are an array in the
-- descriptor of a note.
use Rattle.std.specs.Prelude.{ℕ, ◌+◌, ◌*◌, ◌/◌, ◌==◌, ◌||◌, ◌&&◌, nat_lt, nat_eq, Bool, false, if◌then◌else◌, List, [], ◌∷◌}
use Rattle.std.specs.Prelude.{◌++◌, codes, drop, Option, Some, None, unwrap_or}
use Rattle.std.specs.Option.{option_and_then, option_map}
use Rattle.std.specs.Result.{result_ok}
use Rattle.std.specs.Str.{bytes_eq}
use Rattle.elf_abi.specs.Names.{Row, name_of}
use Rattle.elf_names.specs.Flags.{Flag, flags as flags_in}
use Rattle.elf_names.specs.Table.{rows}
use Rattle.elf_records.specs.Number.{number_at}
use Rattle.elf_records.specs.declared.file.Class.{Class}
use Rattle.elf_records.specs.declared.file.Class.TheVariants.{ELF32, ELF64}
use Rattle.nugwier_notes.specs.Features.{feature_flags, is_aarch64, is_x86}
use Rattle.nugwier_layouts.specs.Members.{number_content}
use Rattle.nugwier_report.specs.Parts.{part_member}
use Rattle.nugwier_layouts.specs.Members.{Members, flags, number, word}
use Rattle.nugwier_report.specs.Said.{Said, states}
use Rattle.nugwier_report.specs.declared.problem.Part.{Part}
use Rattle.nugwier_notes.specs.declared.properties.NoteFile.{NoteFile}
use Rattle.nugwier_notes.specs.declared.properties.TheConstants as names
use Rattle.nugwier_layouts.specs.Layouts.{Layout, constant}
use Rattle.nugwier_layouts.specs.declared.layouts.TheConstants as layout

-- the note has the name GNU and the type NT_GNU_PROPERTY_TYPE_0 (5)
abbrev pub is_property_note : ℕ → List ℕ → Bool
is_property_note n_type name = n_type == 5 && bytes_eq name (codes "GNU\0")

-- ---- a property

-- it begins with its type and the size of its data, four bytes each
abbrev pub number_in : Bool → List ℕ → ℕ → Option ℕ
number_in little bytes o = result_ok (number_at little 4 bytes o)

abbrev pub property_at : Bool → List ℕ → Option (ℕ × ℕ)
property_at little bytes =
    option_and_then (λ type. option_map (λ size. (type, size)) (number_in little bytes 4)) (number_in little bytes 0)

-- its data are filled up to a multiple of 4 bytes, in a 64-bit file of 8
abbrev pub padded : Class → ℕ → ℕ
padded ELF32 size = (size + 3) / 4 * 4
padded ELF64 size = (size + 7) / 8 * 8

-- data of 4 or 8 bytes are a number
abbrev pub property_number : Bool → ℕ → List ℕ → Option ℕ
property_number little size bytes =
    if size == 4 then number_in little bytes 8
    else if size == 8 then result_ok (number_at little 8 bytes 8)
    else None

-- ---- names, by the machine

-- GNU_PROPERTY_X86_FEATURE_1_AND and GNU_PROPERTY_AARCH64_FEATURE_1_AND
abbrev pub feature_type : ℕ → Option ℕ
feature_type machine =
    if is_x86 machine then Some 0xc0000002 else if is_aarch64 machine then Some 0xc0000000 else None

abbrev pub is_feature_type : ℕ → ℕ → Bool
is_feature_type machine type = elim (feature_type machine) [ Some features ↦ features == type | None ↦ false ]

-- GNU_PROPERTY_X86_ISA_1_NEEDED and GNU_PROPERTY_X86_ISA_1_USED
abbrev pub is_level_type : ℕ → ℕ → Bool
is_level_type machine type = is_x86 machine && (type == 0xc0008002 || type == 0xc0010002)

-- GNU_PROPERTY_X86_FEATURE_2_NEEDED and GNU_PROPERTY_X86_FEATURE_2_USED
abbrev pub is_used_type : ℕ → ℕ → Bool
is_used_type machine type = is_x86 machine && (type == 0xc0008001 || type == 0xc0010001)

-- the flags in the number of a property
unfoldable pub property_flags : ℕ → ℕ → List Flag
property_flags machine type =
    if is_feature_type machine type then feature_flags machine
    else if is_level_type machine type then flags_in names.X86_LEVELS.now
    else if is_used_type machine type then flags_in names.X86_USED.now
    else []

-- types from GNU_PROPERTY_LOPROC on are those of a machine
unfoldable pub property_types : ℕ → ℕ → List (Row ℕ)
property_types machine type =
    if nat_lt type 0xc0000000 then rows names.GNU.now
    else if is_x86 machine then rows names.X86.now
    else if is_aarch64 machine then rows names.AARCH64.now
    else []

abbrev pub property_name : ℕ → ℕ → Option (List ℕ)
property_name machine type = name_of nat_eq (property_types machine type) type

-- ---- what is said

-- a property of note i of a section or of a segment: its type and the size of its data, and the number that they are
abbrev pub property_members : NoteFile → Part → ℕ → ℕ × ℕ → Option ℕ → Members
property_members file part i p n =
    part_member part
    ∷ (codes "note", number i)
    ∷ (codes "pr_type", number p.0)
    ∷ (codes "pr_type_name", word (property_name file.machine p.0))
    ∷ (codes "pr_datasz", number p.1)
    ∷ (codes "number", number_content n)
    ∷ (codes "number_names", flags (property_flags file.machine p.0) (unwrap_or n 0))
    ∷ []

abbrev pub property_layout : Option ℕ → Layout
property_layout (Some n) = constant layout.NUMBER_PROPERTY
property_layout None = constant layout.PROPERTY

abbrev pub property_said : NoteFile → Part → ℕ → ℕ × ℕ → Option ℕ → List Said
property_said file part i p n = states (property_layout n) (property_members file part i p n) ∷ []

-- each, up to one that does not fit, and no more than the first list has bytes
abbrev pub properties_said : NoteFile → Part → ℕ → List ℕ → List ℕ → List Said
properties_said file part i [] rest = []
properties_said file part i (byte ∷ bytes) rest = elim (property_at file.is_little rest) [
  | Some p ↦ property_said file part i p (property_number file.is_little p.1 rest)
      ++ properties_said file part i bytes (drop (8 + padded file.class p.1) rest)
  | None ↦ []
]
