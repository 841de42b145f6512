-- What is said of the descriptors of notes, by their owner and type. Of one that has not the form of its type nothing is
-- said here; its bytes are a member of its note.
use Rattle.std.specs.Prelude.{ℕ, ◌*◌, ◌==◌, ◌||◌, ◌&&◌, Bool, if◌then◌else◌, List, [], ◌∷◌, codes, drop, Option, Some}
use Rattle.std.specs.Option.{option_and_then, option_map}
use Rattle.std.specs.Result.{result_ok}
use Rattle.std.specs.Str.{bytes_eq}
use Rattle.elf_records.specs.Class.{address_size}
use Rattle.elf_records.specs.StringTable.{string_at}
use Rattle.nugwier_notes.specs.CoreNotes.{core_said, is_core_note}
use Rattle.nugwier_notes.specs.NoteParts.{address_in, after_string, text_in}
use Rattle.nugwier_report.specs.Parts.{part_member}
use Rattle.nugwier_notes.specs.Properties.{is_property_note, properties_said}
use Rattle.nugwier_layouts.specs.Members.{Members, number, text}
use Rattle.nugwier_report.specs.Said.{Said, said_if, states}
use Rattle.nugwier_notes.specs.declared.descriptors.ProbeAddresses.{ProbeAddresses}
use Rattle.nugwier_notes.specs.declared.descriptors.ProbeNames.{ProbeNames}
use Rattle.nugwier_report.specs.declared.problem.Part.{Part}
use Rattle.nugwier_notes.specs.declared.properties.NoteFile.{NoteFile}
use Rattle.nugwier_layouts.specs.Layouts.{constant}
use Rattle.nugwier_layouts.specs.declared.layouts.TheConstants as layout

-- ---- a text: NT_GNU_GOLD_VERSION (4) of GNU, and the JSON of FDO, NT_FDO_PACKAGING_METADATA (systemd, "Package Metadata
-- for Executable Files") and NT_FDO_DLOPEN_METADATA ("ELF dlopen metadata")

abbrev pub is_text_note : ℕ → List ℕ → Bool
is_text_note n_type name =
    (n_type == 4 && bytes_eq name (codes "GNU\0"))
    || ((n_type == 0xcafe1a7e || n_type == 0x407c0c0a) && bytes_eq name (codes "FDO\0"))

-- of note i of a section or of a segment
abbrev pub text_members : Part → ℕ → List ℕ → Members
text_members part i bytes =
    part_member part
    ∷ (codes "note", number i)
    ∷ (codes "text", text (Some (text_in bytes)))
    ∷ []

-- ---- a probe of SystemTap: NT_STAPSDT (3) of stapsdt (SystemTap, "User Space Probe Implementation")

abbrev pub is_probe_note : ℕ → List ℕ → Bool
is_probe_note n_type name = n_type == 3 && bytes_eq name (codes "stapsdt\0")

abbrev pub addresses_in : NoteFile → List ℕ → Option ProbeAddresses
addresses_in file bytes =
    let size = address_size file.class in
    option_and_then (λ location. option_and_then (λ base. option_map (λ semaphore.
    record { location = location; base = base; semaphore = semaphore })
    (address_in file bytes (2 * size))) (address_in file bytes size)) (address_in file bytes 0)

-- three strings in a row
pub record ProbeTexts : Type 0 where
  pub provider : List ℕ
  pub name : List ℕ
  pub arguments : List ℕ

abbrev pub texts_view : ProbeNames → ProbeTexts
texts_view names = record { provider = names.provider.now; name = names.name.now; arguments = names.arguments.now }

abbrev pub first_string : List ℕ → Option (List ℕ)
first_string bytes = result_ok (string_at bytes 0)

abbrev pub texts_in : List ℕ → Option ProbeTexts
texts_in bytes =
    option_and_then (λ provider. option_and_then (λ name. option_map (λ arguments.
    record { provider = provider; name = name; arguments = arguments })
    (first_string (after_string name (after_string provider bytes)))) (first_string (after_string provider bytes)))
    (first_string bytes)

abbrev pub probe_members : Part → ℕ → ProbeAddresses → ProbeTexts → Members
probe_members part i at texts =
    part_member part
    ∷ (codes "note", number i)
    ∷ (codes "provider", text (Some texts.provider))
    ∷ (codes "name", text (Some texts.name))
    ∷ (codes "arguments", text (Some texts.arguments))
    ∷ (codes "location", number at.location)
    ∷ (codes "base", number at.base)
    ∷ (codes "semaphore", number at.semaphore)
    ∷ []

-- the addresses, and the strings after them
abbrev pub probe_in : NoteFile → List ℕ → Option (ProbeAddresses × ProbeTexts)
probe_in file bytes =
    option_and_then (λ at. option_map (λ texts. (at, texts)) (texts_in (drop (3 * address_size file.class) bytes)))
    (addresses_in file bytes)

abbrev pub probe_said : Part → ℕ → ProbeAddresses × ProbeTexts → List Said
probe_said part i probe = states (constant layout.PROBE) (probe_members part i probe.0 probe.1) ∷ []

-- ---- by the type

abbrev pub descriptor_said : NoteFile → Part → ℕ → ℕ → List ℕ → List ℕ → List Said
descriptor_said file part i n_type name bytes =
    if is_property_note n_type name then properties_said file part i bytes bytes
    else if is_text_note n_type name then states (constant layout.NOTE_TEXT) (text_members part i bytes) ∷ []
    else if is_probe_note n_type name then said_if (probe_said part i) (probe_in file bytes)
    else if is_core_note name then core_said file part i n_type bytes
    else []
