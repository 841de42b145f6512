-- What is said of dynamic entries (gABI, chapter "Dynamic Section").
use Rattle.std.specs.Prelude.{ℕ, is_some, if◌then◌else◌, List, [], ◌∷◌, ◌++◌, Option, Some, None, Result, codes}
use Rattle.std.specs.Result.{result_ok}
use Rattle.elf_abi.specs.Values.{dt_flags, dt_flags_1, dt_needed, dt_rpath, dt_runpath, dt_soname}
use Rattle.elf_names.specs.Flags.{dynamic_flags, dynamic_flags_1}
use Rattle.elf_names.specs.Tags.{tag_name}
use Rattle.elf_records.specs.Dynamic.{d_un_view, has_tag}
use Rattle.elf_records.specs.StringTable.{string_at}
use Rattle.elf_records.specs.declared.dynamic.Dyn.{Dyn}
use Rattle.elf_records.specs.declared.parse.ParseError.{ParseError}
use Rattle.nugwier_layouts.specs.Members.{Content, Members, flags, nothing, number, signed}
use Rattle.nugwier_report.specs.Said.{Said, said_if, states}
use Rattle.nugwier_layouts.specs.Members.{text, word}
use Rattle.nugwier_report.specs.Said.{unread}
use Rattle.nugwier_report.specs.declared.problem.Item.TheVariants.{EntryName}
use Rattle.nugwier_report.specs.declared.problem.Part.TheVariants.{Dynamic}
use Rattle.nugwier_layouts.specs.Layouts.{Layout, constant}
use Rattle.nugwier_layouts.specs.declared.layouts.TheConstants as layout

-- the flags of DT_FLAGS and DT_FLAGS_1
abbrev pub flags_in : Dyn → Content
flags_in entry =
    if has_tag dt_flags entry then flags dynamic_flags (d_un_view entry)
    else if has_tag dt_flags_1 entry then flags dynamic_flags_1 (d_un_view entry)
    else nothing

-- entry i of a file for this machine, with the string that it names
abbrev pub entry_members : ℕ → ℕ → Dyn → Option (List ℕ) → Members
entry_members machine i entry name =
    (codes "index", number i)
    ∷ (codes "d_tag", signed entry.d_tag)
    ∷ (codes "d_tag_name", word (tag_name machine entry.d_tag))
    ∷ (codes "d_un", number (d_un_view entry))
    ∷ (codes "d_un_names", flags_in entry)
    ∷ (codes "name", text name)
    ∷ []

-- how an entry that names a library or a search path is shown; its number is the offset of a string
abbrev pub needed_layout : Dyn → Option Layout
needed_layout entry =
    if has_tag dt_needed entry then Some (constant layout.NEEDED)
    else if has_tag dt_soname entry then Some (constant layout.SONAME)
    else if has_tag dt_rpath entry then Some (constant layout.RPATH)
    else if has_tag dt_runpath entry then Some (constant layout.RUNPATH)
    else None

-- the string that it names
abbrev pub entry_string : List ℕ → Dyn → Result (List ℕ) ParseError
entry_string strings entry = string_at strings (d_un_view entry)

-- that its string cannot be read, then the entry with it
abbrev pub named_said : Layout → ℕ → List ℕ → ℕ → Dyn → List Said
named_said l machine strings i entry =
    unread (record { part = Dynamic; item = EntryName i }) (entry_string strings entry)
    ++ states l (entry_members machine i entry (result_ok (entry_string strings entry))) ∷ []

-- how an entry that names no string is shown
abbrev pub nameless_layout : Dyn → Layout
nameless_layout entry =
    if has_tag dt_flags entry then constant layout.FLAGS_ENTRY
    else if has_tag dt_flags_1 entry then constant layout.FLAGS_1_ENTRY
    else constant layout.ENTRY

abbrev pub nameless_said : ℕ → ℕ → Dyn → List Said
nameless_said machine i entry = states (nameless_layout entry) (entry_members machine i entry None) ∷ []

-- an entry, with its string if it names one and if there are strings
abbrev pub entry_said : ℕ → Option (List ℕ) → ℕ → Dyn → List Said
entry_said machine None i entry = nameless_said machine i entry
entry_said machine (Some strings) i entry =
    if is_some (needed_layout entry) then named_said (constant layout.NAMED_ENTRY) machine strings i entry
    else nameless_said machine i entry

-- such an entry; nothing is said of others
abbrev pub needed_said : ℕ → List ℕ → ℕ → Dyn → List Said
needed_said machine strings i entry = said_if (λ l. named_said l machine strings i entry) (needed_layout entry)
