-- What is said of links to files with debug information.
use Rattle.std.specs.Prelude.{ℕ, List, [], ◌∷◌, codes, Some}
use Rattle.elf_tools.specs.DebugLink.{AltLinkView, LinkView}
use Rattle.nugwier_layouts.specs.Members.{Members, bytes, number, text}
use Rattle.nugwier_report.specs.Said.{Said, states}
use Rattle.nugwier_layouts.specs.Layouts.{constant}
use Rattle.nugwier_layouts.specs.declared.layouts.TheConstants as layout

-- of section k
abbrev pub link_members : ℕ → LinkView → Members
link_members k link =
    (codes "section", number k)
    ∷ (codes "name", text (Some link.name))
    ∷ (codes "crc", number link.crc)
    ∷ []

abbrev pub link_said : ℕ → LinkView → List Said
link_said k link = states (constant layout.DEBUG_LINK) (link_members k link) ∷ []

-- to a file that several files share
abbrev pub alt_link_members : ℕ → AltLinkView → Members
alt_link_members k link =
    (codes "section", number k)
    ∷ (codes "name", text (Some link.name))
    ∷ (codes "build_id", bytes link.build_id)
    ∷ []

abbrev pub alt_link_said : ℕ → AltLinkView → List Said
alt_link_said k link = states (constant layout.DEBUG_ALT_LINK) (alt_link_members k link) ∷ []
