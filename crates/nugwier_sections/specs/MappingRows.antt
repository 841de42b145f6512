-- What is said of the memory that a loader maps.
use Rattle.std.specs.Prelude.{ℕ, List, [], ◌∷◌, codes}
use Rattle.elf_names.specs.Flags.{segment_flags}
use Rattle.elf_tools.specs.declared.load_plan.Mapping.{Mapping}
use Rattle.nugwier_layouts.specs.Members.{Members, flags, number}
use Rattle.nugwier_report.specs.Said.{Said, states}
use Rattle.nugwier_layouts.specs.Layouts.{constant}
use Rattle.nugwier_layouts.specs.declared.layouts.TheConstants as layout

-- a mapping, by the members of its segment
unfoldable pub mapping_members : Mapping → Members
mapping_members m =
    (codes "p_vaddr", number m.address)
    ∷ (codes "p_memsz", number m.memory_size)
    ∷ (codes "p_offset", number m.offset)
    ∷ (codes "p_filesz", number m.file_size)
    ∷ (codes "p_flags", number m.flags)
    ∷ (codes "p_flags_names", flags segment_flags m.flags)
    ∷ []

abbrev pub mapping_said : ℕ → Mapping → List Said
mapping_said k m = states (constant layout.MAPPING) (mapping_members m) ∷ []
