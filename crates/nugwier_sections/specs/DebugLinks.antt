-- What is said of the links of a file to files with debug information.
use Rattle.std.specs.Prelude.{ℕ, ◌+◌, Bool, if◌then◌else◌, codes, List, [], ◌∷◌, ◌++◌, Option, Some, None, Result, Ok, Err}
use Rattle.elf.specs.Data.{content}
use Rattle.elf.specs.ObjectFile.{ObjectFile}
use Rattle.elf_records.specs.declared.section.SectionHeader.{SectionHeader}
use Rattle.elf_tools.specs.DebugLink.{AltLinkView, LinkView, debug_alt_link, debug_link, error_text}
use Rattle.elf_tools.specs.declared.debug_link.DebugLinkError.{DebugLinkError}
use Rattle.nugwier_report.specs.NamedSections.{is_named}
use Rattle.nugwier_report.specs.Headings.{heading_members, known_names}
use Rattle.nugwier_report.specs.Labels.{label_name}
use Rattle.nugwier_report.specs.Problems.{fault_text}
use Rattle.nugwier_report.specs.TypedSections.{left_after, within}
use Rattle.nugwier_sections.specs.declared.debug_links.LinkForm.{LinkForm}
use Rattle.nugwier_sections.specs.declared.debug_links.LinkForm.TheVariants.{Own, Shared}
use Rattle.nugwier_sections.specs.DebugLinkRows.{alt_link_said, link_said}
use Rattle.nugwier_report.specs.Said.{Said, states, warns, whole}
use Rattle.nugwier_report.specs.declared.problem.Fault.{Fault}
use Rattle.nugwier_report.specs.declared.problem.Part.TheVariants.{Section}
use Rattle.nugwier_layouts.specs.Layouts.{constant}
use Rattle.nugwier_layouts.specs.declared.layouts.TheConstants as layout

-- by the name of the section, if there are names
abbrev pub form_of : Option (List ℕ) → SectionHeader → Option LinkForm
form_of names s =
    if is_named names (codes ".gnu_debuglink") s then Some Own
    else if is_named names (codes ".gnu_debugaltlink") s then Some Shared
    else None

-- a link to a file with the debug information of this one, or to a file that several files share
pub data Found : Type 0 where
  own : LinkView → Found
  shared : AltLinkView → Found

-- or the text of what is wrong with it
abbrev pub found_by : {A : Type 0} → (A → Found) → Result A DebugLinkError → Result Found (Option (List ℕ))
found_by found (Ok link) = Ok (found link)
found_by found (Err e) = Err (Some (error_text e))

abbrev pub own_link : Bool → List ℕ → Result Found (Option (List ℕ))
own_link little bytes = found_by own (debug_link little bytes)

abbrev pub shared_link : List ℕ → Result Found (Option (List ℕ))
shared_link bytes = found_by shared (debug_alt_link bytes)

abbrev pub link_of_form : Bool → LinkForm → List ℕ → Result Found (Option (List ℕ))
link_of_form little Own bytes = own_link little bytes
link_of_form little Shared bytes = shared_link bytes

-- in these bytes, if they are listed
abbrev pub link_in : Bool → LinkForm → Result (List ℕ) Fault → Result Found (Option (List ℕ))
link_in little form (Ok bytes) = link_of_form little form bytes
link_in little form (Err fault) = Err (fault_text fault)

abbrev pub found_said : ℕ → Found → List Said
found_said k (own link) = link_said k link
found_said k (shared link) = alt_link_said k link

-- the link, or why it is not listed
abbrev pub link_told : ℕ → Result Found (Option (List ℕ)) → List Said
link_told k (Ok found) = found_said k found
link_told k (Err fault) = warns (whole (Section k)) fault ∷ []

-- a heading, and the link
abbrev pub section_said : ℕ → List ℕ → Result Found (Option (List ℕ)) → List Said
section_said k name link = states (constant layout.DEBUG_LINK_HEADING) (heading_members k name) ∷ link_told k link

-- of section k, if it has a link, while this number of bytes are left to list
abbrev pub link_of_section : ObjectFile → Option (List ℕ) → ℕ → ℕ → SectionHeader → List Said
link_of_section file names left k s = elim (form_of names s) [
  | Some form ↦ section_said k (label_name names s) (link_in file.little form (within left (content file s)))
  | None ↦ []
]

abbrev pub left_after_section : ObjectFile → Option (List ℕ) → ℕ → SectionHeader → ℕ
left_after_section file names left s = elim (form_of names s) [
  | Some form ↦ left_after left (content file s)
  | None ↦ left
]

-- of sections with the numbers from k on
abbrev pub links_of_sections : ObjectFile → Option (List ℕ) → ℕ → ℕ → List SectionHeader → List Said
links_of_sections file names left k [] = []
links_of_sections file names left k (s ∷ sections) =
    link_of_section file names left k s
    ++ links_of_sections file names (left_after_section file names left s) (k + 1) sections

-- Sections with links have together at most as many bytes as the file, so bytes that many sections have are not listed
-- over and over.
abbrev pub said_of_debug_links : ObjectFile → List Said
said_of_debug_links file = links_of_sections file (known_names file) file.size 0 file.sections
