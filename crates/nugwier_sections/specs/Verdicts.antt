-- What is said of whether a file is sound.
use Rattle.std.specs.Prelude.{◌≡◌, ℕ, true, false, List, [], ◌∷◌, Option, Some, codes}
use Rattle.std.specs.List.{flat_map}
use Rattle.elf_check.specs.declared.faults.FileFault.{FileFault}
use Rattle.elf_check.specs.declared.faults.FileFault.TheVariants.{Section}
use Rattle.nugwier_report.specs.Parts.{part_member}
use Rattle.elf_check.specs.Texts.{file_text, section_text}
use Rattle.nugwier_layouts.specs.Members.{Members, flag, nothing, text}
use Rattle.nugwier_report.specs.Said.{Said, states, warns, whole}
use Rattle.nugwier_report.specs.declared.problem.Part.{Part}
use Rattle.nugwier_report.specs.declared.problem.Part.TheVariants.{File, Section as PartSection}
use Rattle.nugwier_layouts.specs.Layouts.{constant}
use Rattle.nugwier_layouts.specs.declared.layouts.TheConstants as layout

-- ---- a sound file, of this path

abbrev pub sound_file_members : List ℕ → Members
sound_file_members path = (codes "path", text (Some path)) ∷ []

abbrev pub sound_members : Members
sound_members = (codes "is_sound", flag true) ∷ (codes "section", nothing) ∷ (codes "fault", nothing) ∷ []

-- its path, for people, and a record for programs
abbrev pub sound_said : List ℕ → List Said
sound_said path = states (constant layout.SOUND_FILE) (sound_file_members path) ∷ states (constant layout.VERDICT) sound_members ∷ []

-- ---- a fault

-- it is in a section, or in the file as a whole
abbrev pub fault_part : FileFault → Part
fault_part (Section index fault) = PartSection index
fault_part _ = File

-- as it is told of its place
abbrev pub fault_told : FileFault → Option (List ℕ)
fault_told (Section index fault) = section_text fault
fault_told fault = file_text fault

abbrev pub fault_members : FileFault → Members
fault_members fault =
    (codes "is_sound", flag false) ∷ part_member (fault_part fault)
    ∷ (codes "fault", text (fault_told fault)) ∷ []

-- a record with the text of the problem, then the problem
abbrev pub fault_said : FileFault → List Said
fault_said fault =
    states (constant layout.VERDICT) (fault_members fault) ∷ warns (whole (fault_part fault)) (fault_told fault) ∷ []

-- ---- a file

-- of the file of this path, with these faults: it is sound, or one fault after the other
abbrev pub verdict_said : List ℕ → List FileFault → List Said
verdict_said path [] = sound_said path
verdict_said path (fault ∷ faults) = flat_map fault_said (fault ∷ faults)

abbrev pub IsVerdictSaid : List ℕ → List FileFault → List Said → Type 0
IsVerdictSaid path faults said = said ≡ verdict_said path faults
