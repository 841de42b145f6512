-- What is said of how a file is hardened against attacks, and what may be required of it. What is not known is None.
use Rattle.std.specs.Prelude.{ℕ, ◌==◌, ◌||◌, ◌&&◌, not, nat_lt, bit_and, Bool, true, false, List, []}
use Rattle.std.specs.Prelude.{◌∷◌, Option, Some, None, codes}
use Rattle.std.specs.Option.{option_copied, option_map}
use Rattle.nugwier_layouts.specs.Members.{Content, Members, flag, flags, nothing, number, number_content, text, word}
use Rattle.nugwier_report.specs.Said.{Said, states}
use Rattle.nugwier_sections.specs.Header.{kind_name}
use Rattle.nugwier_sections.specs.declared.header.FileKind.{FileKind}
use Rattle.nugwier_sections.specs.declared.header.FileKind.TheVariants as kinds
use Rattle.nugwier_notes.specs.Features.{feature_flags, is_aarch64, is_x86}
use Rattle.nugwier_dynamic.specs.declared.hardening_rows.Hardening.{Hardening}
use Rattle.nugwier_dynamic.specs.declared.hardening_rows.Relro.{Relro}
use Rattle.nugwier_dynamic.specs.declared.hardening_rows.Relro.TheVariants as relro
use Rattle.nugwier_dynamic.specs.declared.hardening_rows.Requirement.{Requirement}
use Rattle.nugwier_dynamic.specs.declared.hardening_rows.Requirement.TheVariants as need
use Rattle.nugwier_dynamic.specs.declared.hardening_rows.SearchPaths.{SearchPaths}
use Rattle.nugwier_layouts.specs.Layouts.{constant}
use Rattle.nugwier_layouts.specs.declared.layouts.TheConstants as layout

-- the search paths of a file, if it has any
pub record Paths : Type 0 where
  pub rpath : Option (List ℕ)
  pub runpath : Option (List ℕ)

abbrev pub paths_view : SearchPaths → Paths
paths_view p = record { rpath = option_copied p.rpath; runpath = option_copied p.runpath }

-- ---- words

abbrev pub is_yes : Option Bool → Bool
is_yes (Some b) = b
is_yes None = false

abbrev pub relro_name : Relro → List ℕ
relro_name relro.Nothing = codes "none"
relro_name relro.Partial = codes "partial"
relro_name relro.Full = codes "full"

-- a word for each value of a flag
abbrev pub word_if : Option Bool → List ℕ → List ℕ → Option (List ℕ)
word_if (Some true) one other = Some one
word_if (Some false) one other = Some other
word_if None one other = None

-- ---- the record

abbrev pub flag_content : Option Bool → Content
flag_content (Some b) = flag b
flag_content None = nothing

abbrev pub features_content : ℕ → Option ℕ → Content
features_content machine (Some n) = flags (feature_flags machine) n
features_content machine None = nothing

abbrev pub path_content : Option (List ℕ) → Content
path_content (Some path) = text (Some path)
path_content None = nothing

abbrev pub hardening_members : Hardening → Paths → Members
hardening_members h paths =
    (codes "pie", word (option_map kind_name h.kind))
    ∷ (codes "relro", word (option_map relro_name h.relro))
    ∷ (codes "bind_now", flag_content h.binds_now)
    ∷ (codes "stack", word (word_if h.has_nx (codes "nx") (codes "executable")))
    ∷ (codes "writable_and_executable", number h.writable_code)
    ∷ (codes "canary", flag_content h.has_canary)
    ∷ (codes "fortified", number_content h.fortified)
    ∷ (codes "fortifiable", number_content h.fortifiable)
    ∷ (codes "rpath", path_content paths.rpath)
    ∷ (codes "runpath", path_content paths.runpath)
    ∷ (codes "unsafe_path", flag_content h.is_path_unsafe)
    ∷ (codes "branch_protection", number_content h.features)
    ∷ (codes "branch_protection_names", features_content h.machine h.features)
    ∷ (codes "stripped", flag h.is_stripped)
    ∷ []

-- people see a dash if there is no path
abbrev pub shown_path : Option (List ℕ) → Content
shown_path (Some path) = text (Some path)
shown_path None = text (Some (codes "-"))

abbrev pub row_members : List ℕ → Hardening → Paths → Members
row_members path h paths =
    (codes "path", text (Some path))
    ∷ (codes "pie", word (option_map kind_name h.kind))
    ∷ (codes "relro", word (option_map relro_name h.relro))
    ∷ (codes "binding", word (word_if h.binds_now (codes "now") (codes "lazy")))
    ∷ (codes "stack", word (word_if h.has_nx (codes "nx") (codes "executable")))
    ∷ (codes "writable_and_executable", number h.writable_code)
    ∷ (codes "canary", word (word_if h.has_canary (codes "canary") (codes "no canary")))
    ∷ (codes "fortified", number_content h.fortified)
    ∷ (codes "fortifiable", number_content h.fortifiable)
    ∷ (codes "rpath", shown_path paths.rpath)
    ∷ (codes "runpath", shown_path paths.runpath)
    ∷ (codes "unsafe_path", word (word_if (Some (is_yes h.is_path_unsafe)) (codes "  unsafe path") (codes "")))
    ∷ (codes "branch_protection", features_content h.machine h.features)
    ∷ (codes "stripped", word (word_if (Some h.is_stripped) (codes "  stripped") (codes "")))
    ∷ []

-- of the file of this path: a row for people, and an object of JSON
abbrev pub hardening_said : List ℕ → Hardening → Paths → List Said
hardening_said path h paths =
    states (constant layout.HARDENED_FILE) (row_members path h paths) ∷ states (constant layout.HARDENING) (hardening_members h paths) ∷ []

-- ---- what may be required of a file

abbrev pub requirement_word : Requirement → List ℕ
requirement_word need.Pie = codes "pie"
requirement_word need.Relro = codes "relro"
requirement_word need.BindNow = codes "bindnow"
requirement_word need.Nx = codes "nx"
requirement_word need.Wx = codes "wx"
requirement_word need.Canary = codes "canary"
requirement_word need.Fortify = codes "fortify"
requirement_word need.Runpath = codes "runpath"
requirement_word need.Ibt = codes "ibt"
requirement_word need.Shstk = codes "shstk"
requirement_word need.Bti = codes "bti"
requirement_word need.Pac = codes "pac"
requirement_word need.Stripped = codes "stripped"

-- what is told of a file that does not meet it
abbrev pub lack_text : Requirement → List ℕ
lack_text need.Pie = codes "not position-independent"
lack_text need.Relro = codes "not full RELRO"
lack_text need.BindNow = codes "symbols are not bound at the start"
lack_text need.Nx = codes "the stack may be executable"
lack_text need.Wx = codes "a segment is writable and executable"
lack_text need.Canary = codes "no stack canary"
lack_text need.Fortify = codes "no fortified functions"
lack_text need.Runpath = codes "a search path is unsafe"
lack_text need.Ibt = codes "no IBT"
lack_text need.Shstk = codes "no SHSTK"
lack_text need.Bti = codes "no BTI"
lack_text need.Pac = codes "no PAC"
lack_text need.Stripped = codes "not stripped"

-- a program at any address, or a shared object
abbrev pub is_pie : Option FileKind → Bool
is_pie (Some kinds.Pie) = true
is_pie (Some kinds.StaticPie) = true
is_pie (Some kinds.SharedObject) = true
is_pie other = false

abbrev pub is_full : Option Relro → Bool
is_full (Some relro.Full) = true
is_full other = false

abbrev pub is_no : Option Bool → Bool
is_no (Some b) = not b
is_no None = false

-- some of the functions that could check the size of their buffers do, or there is none
abbrev pub is_fortified : Option ℕ → Option ℕ → Bool
is_fortified (Some fortified) (Some fortifiable) = nat_lt 0 fortified || fortifiable == 0
is_fortified fortified fortifiable = false

abbrev pub has_feature : Option ℕ → ℕ → Bool
has_feature (Some n) mask = not (bit_and n mask == 0)
has_feature None mask = false

-- what is not known is not met
abbrev pub meets : Requirement → Hardening → Bool
meets need.Pie h = is_pie h.kind
meets need.Relro h = is_full h.relro
meets need.BindNow h = is_yes h.binds_now
meets need.Nx h = is_yes h.has_nx
meets need.Wx h = h.writable_code == 0
meets need.Canary h = is_yes h.has_canary
meets need.Fortify h = is_fortified h.fortified h.fortifiable
meets need.Runpath h = is_no h.is_path_unsafe
meets need.Ibt h = is_x86 h.machine && has_feature h.features 1
meets need.Shstk h = is_x86 h.machine && has_feature h.features 2
meets need.Bti h = is_aarch64 h.machine && has_feature h.features 1
meets need.Pac h = is_aarch64 h.machine && has_feature h.features 2
meets need.Stripped h = h.is_stripped
