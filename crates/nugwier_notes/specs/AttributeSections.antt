-- What is said of the build attributes of a file.
use Rattle.std.specs.Prelude.{ℕ, ◌==◌, ◌||◌, Bool, if◌then◌else◌, List, [], ◌∷◌, Result}
use Rattle.std.specs.List.{flat_map}
use Rattle.elf_abi.specs.Values.{em_aarch64, em_arm, em_riscv, sht_arm_attributes, sht_gnu_attributes}
use Rattle.elf.specs.ObjectFile.{ObjectFile}
use Rattle.elf_records.specs.Number.{ok_map}
use Rattle.nugwier_report.specs.Headings.{heading_members, known_names}
use Rattle.nugwier_report.specs.Labels.{label_name}
use Rattle.nugwier_notes.specs.NoteSections.{note_file}
use Rattle.nugwier_report.specs.Reading.{given_said}
use Rattle.nugwier_report.specs.TypedSections.{TypedSection, sections_of}
use Rattle.nugwier_notes.specs.Attributes.{build_attributes_said}
use Rattle.nugwier_report.specs.Said.{Said, states}
use Rattle.nugwier_report.specs.declared.problem.Fault.{Fault}
use Rattle.nugwier_report.specs.declared.problem.Part.TheVariants.{Section}
use Rattle.nugwier_notes.specs.declared.properties.NoteFile.{NoteFile}
use Rattle.nugwier_layouts.specs.Layouts.{constant}
use Rattle.nugwier_layouts.specs.declared.layouts.TheConstants as layout

-- SHT_ARM_ATTRIBUTES, SHT_AARCH64_ATTRIBUTES and SHT_RISCV_ATTRIBUTES are one number, which other machines use otherwise
abbrev pub has_machine_type : ℕ → Bool
has_machine_type machine = machine == em_arm || machine == em_aarch64 || machine == em_riscv

abbrev pub attribute_types : ℕ → List ℕ
attribute_types machine =
    if has_machine_type machine then sht_gnu_attributes ∷ sht_arm_attributes ∷ [] else sht_gnu_attributes ∷ []

-- the bytes of a section, and the file as they depend on it
abbrev pub attributes_in : NoteFile → Result (List ℕ) Fault → Result (NoteFile × List ℕ) Fault
attributes_in file bytes = ok_map (λ listed. (file, listed)) bytes

-- a heading, and the attributes, or why they are not listed
abbrev pub section_said : ℕ → List ℕ → Result (NoteFile × List ℕ) Fault → List Said
section_said k name attributes =
    states (constant layout.ATTRIBUTES_HEADING) (heading_members k name) ∷ given_said (Section k) (build_attributes_said k) attributes

abbrev pub attributes_of_section : ℕ → ObjectFile → TypedSection → List Said
attributes_of_section machine file s =
    section_said s.number (label_name (known_names file) s.header) (attributes_in (note_file machine file) s.bytes)

abbrev pub said_of_attributes : ℕ → ObjectFile → List Said
said_of_attributes machine file =
    flat_map (attributes_of_section machine file) (sections_of file (attribute_types machine))
