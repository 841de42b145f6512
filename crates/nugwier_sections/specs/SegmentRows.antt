-- What is said of segments (gABI, chapter "Program Header").
use Rattle.std.specs.Prelude.{ℕ, List, [], ◌∷◌, Some, codes}
use Rattle.elf_names.specs.Flags.{segment_flags}
use Rattle.elf_names.specs.Segments.{segment_type_name}
use Rattle.elf_records.specs.declared.segment.ProgramHeader.{ProgramHeader}
use Rattle.nugwier_layouts.specs.Members.{Members, flags, number, text, word}
use Rattle.nugwier_report.specs.Said.{Said, states}
use Rattle.nugwier_layouts.specs.Layouts.{constant}
use Rattle.nugwier_layouts.specs.declared.layouts.TheConstants as layout

-- segment i of a file for this machine
unfoldable pub segment_members : ℕ → ℕ → ProgramHeader → Members
segment_members machine i p =
    (codes "index", number i)
    ∷ (codes "p_type", number p.p_type)
    ∷ (codes "p_type_name", word (segment_type_name machine p.p_type))
    ∷ (codes "p_flags", number p.p_flags)
    ∷ (codes "p_flags_names", flags segment_flags p.p_flags)
    ∷ (codes "p_offset", number p.p_offset)
    ∷ (codes "p_vaddr", number p.p_vaddr)
    ∷ (codes "p_paddr", number p.p_paddr)
    ∷ (codes "p_filesz", number p.p_filesz)
    ∷ (codes "p_memsz", number p.p_memsz)
    ∷ (codes "p_align", number p.p_align)
    ∷ []

abbrev pub segment_said : ℕ → ℕ → ProgramHeader → List Said
segment_said machine i p = states (constant layout.SEGMENT) (segment_members machine i p) ∷ []

-- the path of the program that loads the file, of segment i
abbrev pub interpreter_said : ℕ → List ℕ → List Said
interpreter_said i path =
    states (constant layout.INTERPRETER) ((codes "segment", number i) ∷ (codes "path", text (Some path)) ∷ []) ∷ []
