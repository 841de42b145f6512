-- What is said of sections (gABI, chapter "Sections").
use Rattle.std.specs.Prelude.{ℕ, List, [], ◌∷◌, ◌++◌, Option, Some, None, codes}
use Rattle.std.specs.Result.{result_ok}
use Rattle.elf_names.specs.Flags.{section_flags}
use Rattle.elf_names.specs.Sections.{section_type_name}
use Rattle.elf_records.specs.StringTable.{string_at}
use Rattle.elf_records.specs.declared.section.SectionHeader.{SectionHeader}
use Rattle.nugwier_layouts.specs.Members.{Members, flags, number, text, word}
use Rattle.nugwier_report.specs.Said.{Said, states, unread}
use Rattle.nugwier_report.specs.declared.problem.Item.TheVariants.{Name}
use Rattle.nugwier_report.specs.declared.problem.Part.TheVariants.{Section}
use Rattle.nugwier_layouts.specs.Layouts.{constant}
use Rattle.nugwier_layouts.specs.declared.layouts.TheConstants as layout

-- section i of a file for this machine, with this name
abbrev pub section_members : ℕ → ℕ → SectionHeader → Option (List ℕ) → Members
section_members machine i s name =
    (codes "index", number i)
    ∷ (codes "sh_name", number s.sh_name)
    ∷ (codes "name", text name)
    ∷ (codes "sh_type", number s.sh_type)
    ∷ (codes "sh_type_name", word (section_type_name machine s.sh_type))
    ∷ (codes "sh_flags", number s.sh_flags)
    ∷ (codes "sh_flags_names", flags section_flags s.sh_flags)
    ∷ (codes "sh_addr", number s.sh_addr)
    ∷ (codes "sh_offset", number s.sh_offset)
    ∷ (codes "sh_size", number s.sh_size)
    ∷ (codes "sh_link", number s.sh_link)
    ∷ (codes "sh_info", number s.sh_info)
    ∷ (codes "sh_addralign", number s.sh_addralign)
    ∷ (codes "sh_entsize", number s.sh_entsize)
    ∷ []

-- its name in these strings; no name if there are none
abbrev pub name_read : Option (List ℕ) → SectionHeader → Option (List ℕ)
name_read None s = Some []
name_read (Some names) s = result_ok (string_at names s.sh_name)

abbrev pub name_unread : Option (List ℕ) → ℕ → SectionHeader → List Said
name_unread None i s = []
name_unread (Some names) i s = unread (record { part = Section i; item = Name }) (string_at names s.sh_name)

-- that its name cannot be read, then the section
abbrev pub section_said : ℕ → Option (List ℕ) → ℕ → SectionHeader → List Said
section_said machine names i s =
    name_unread names i s ++ states (constant layout.SECTION) (section_members machine i s (name_read names s)) ∷ []
