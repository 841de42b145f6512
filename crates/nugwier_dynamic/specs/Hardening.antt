-- How a file is hardened against attacks: by its segments (gABI, chapter "Program Header"; GNU extensions), its dynamic
-- entries (gABI, chapter "Dynamic Section"), its symbols, and the properties of its code (Linux Extensions to gABI,
-- section "Program Property"). What is not known is None.
use Rattle.std.specs.Prelude.{ℕ, ℤ, ◌+◌, ◌==◌, ◌||◌, ◌&&◌, not, nat_lt, bit_and, bit_or, Bool, false}
use Rattle.std.specs.Prelude.{if◌then◌else◌, List, [], ◌∷◌, ◌++◌, codes, drop, filter, length, map}
use Rattle.std.specs.Prelude.{Option, Some, None, Result, Ok, Err, unwrap_or}
use Rattle.std.specs.List.{enumerate_from, find, flat_map, last_or, list_any, slice_split, starts_with}
use Rattle.std.specs.Option.{option_map}
use Rattle.std.specs.Result.{result_ok}
use Rattle.elf.specs.Answers.{segment_data, symbol_table}
use Rattle.elf.specs.Data.{content}
use Rattle.elf.specs.Names.{is_string}
use Rattle.elf.specs.ObjectFile.{ObjectFile, err_map}
use Rattle.elf_check.specs.Notes.{note_align}
use Rattle.elf_dynamic.specs.dynamic_view.Entries.{value_of}
use Rattle.elf_abi.specs.Values.{df_1_now, df_bind_now, dt_bind_now, dt_debug, dt_flags, dt_flags_1, dt_rpath}
use Rattle.elf_abi.specs.Values.{dt_runpath, et_core, et_dyn, et_exec, et_rel, pf_w, pf_x, pt_gnu_property}
use Rattle.elf_abi.specs.Values.{pt_gnu_relro, pt_gnu_stack, pt_interp, pt_load, sht_symtab}
use Rattle.elf_parts.specs.Note.{AbiTag, BuildId, NoteContent, Other, notes_in}
use Rattle.elf_records.specs.Dynamic.{d_un_view, has_tag}
use Rattle.elf_records.specs.StringTable.{string_at}
use Rattle.elf_records.specs.Symbol.{symbol_reads}
use Rattle.elf_records.specs.Table.{Table, table_items}
use Rattle.elf_records.specs.declared.dynamic.Dyn.{Dyn}
use Rattle.elf_records.specs.declared.file.Class.{Class}
use Rattle.elf_records.specs.declared.parse.ParseError.{ParseError}
use Rattle.elf_records.specs.declared.section.SectionHeader.{SectionHeader}
use Rattle.elf_records.specs.declared.segment.ProgramHeader.{ProgramHeader}
use Rattle.elf_records.specs.declared.symbol.Symbol.{Symbol}
use Rattle.nugwier_report.specs.NamedSections.{first_named}
use Rattle.nugwier_dynamic.specs.Entries.{Entries, entries_of, strings_missed}
use Rattle.nugwier_report.specs.Headings.{known_names}
use Rattle.nugwier_report.specs.Linked.{linked_symbols}
use Rattle.nugwier_report.specs.Reading.{fault_said, if_read}
use Rattle.nugwier_dynamic.specs.declared.hardening.TheConstants as names
use Rattle.nugwier_dynamic.specs.HardeningRows.{Paths, hardening_said, lack_text, meets}
use Rattle.nugwier_notes.specs.Properties.{feature_type, is_property_note, number_in, padded, property_at}
use Rattle.nugwier_report.specs.Said.{Said, unread, warns, whole, wrong}
use Rattle.nugwier_sections.specs.declared.header.FileKind.{FileKind}
use Rattle.nugwier_sections.specs.declared.header.FileKind.TheVariants as kinds
use Rattle.nugwier_dynamic.specs.declared.hardening_rows.Hardening.{Hardening}
use Rattle.nugwier_dynamic.specs.declared.hardening_rows.Relro.{Relro}
use Rattle.nugwier_dynamic.specs.declared.hardening_rows.Relro.TheVariants as relro
use Rattle.nugwier_dynamic.specs.declared.hardening_rows.Requirement.{Requirement}
use Rattle.nugwier_report.specs.declared.problem.Fault.{Fault}
use Rattle.nugwier_report.specs.declared.problem.Fault.TheVariants.{Read}
use Rattle.nugwier_report.specs.declared.problem.Item.TheVariants.{EntryName}
use Rattle.nugwier_report.specs.declared.problem.Part.{Part}
use Rattle.nugwier_report.specs.declared.problem.Part.TheVariants.{Dynamic, DynamicSymbols, File, Section}
use Rattle.nugwier_report.specs.declared.problem.Part.TheVariants.{Segment, Symbols}

-- ---- segments

-- it has this type, and all of these flags
abbrev pub is_segment : ℕ → ℕ → ProgramHeader → Bool
is_segment p_type flags p = p.p_type == p_type && bit_and p.p_flags flags == flags

abbrev pub has_segment : ℕ → ℕ → List ProgramHeader → Bool
has_segment p_type flags segments = list_any (is_segment p_type flags) segments

-- how many are loaded to be both written and executed
abbrev pub count_writable_code : List ProgramHeader → ℕ
count_writable_code segments = length (filter (is_segment pt_load (bit_or pf_w pf_x)) segments)

-- it is asked for; without PT_GNU_STACK the stack is executable
abbrev pub has_nx_stack : List ProgramHeader → Bool
has_nx_stack segments = has_segment pt_gnu_stack 0 segments && not (has_segment pt_gnu_stack pf_x segments)

-- a program or a shared object, as relocatable and core files are not
abbrev pub is_linked : ℕ → Bool
is_linked e_type = e_type == et_exec || e_type == et_dyn

abbrev pub stack_of : ℕ → List ProgramHeader → Option Bool
stack_of e_type segments = if is_linked e_type then Some (has_nx_stack segments) else None

-- ---- dynamic entries

-- the value of this tag, which the last entry with it gives, has a bit of the mask
abbrev pub has_flag : ℤ → ℕ → List Dyn → Bool
has_flag tag mask entries = not (bit_and (unwrap_or (value_of tag entries) 0) mask == 0)

abbrev pub binds_now : List Dyn → Bool
binds_now entries =
    list_any (has_tag dt_bind_now) entries || has_flag dt_flags df_bind_now entries
    || has_flag dt_flags_1 df_1_now entries

-- A program at any address has DF_1_PIE (0x8000000). Linkers before that flag gave a program, and no library, an entry DT_DEBUG.
abbrev pub is_pie : Bool → List Dyn → Bool
is_pie has_interpreter entries =
    has_flag dt_flags_1 0x8000000 entries || (has_interpreter && list_any (has_tag dt_debug) entries)

abbrev pub program_kind : Bool → FileKind
program_kind has_interpreter = if has_interpreter then kinds.Pie else kinds.StaticPie

abbrev pub dynamic_kind : Bool → List Dyn → FileKind
dynamic_kind has_interpreter entries =
    if is_pie has_interpreter entries then program_kind has_interpreter else kinds.SharedObject

-- of a file with this type, these segments and these dynamic entries
abbrev pub file_kind : ℕ → List ProgramHeader → Option (List Dyn) → Option FileKind
file_kind e_type segments entries =
    if e_type == et_exec then Some kinds.Executable
    else if e_type == et_rel then Some kinds.Relocatable
    else if e_type == et_core then Some kinds.Core
    else if e_type == et_dyn then option_map (dynamic_kind (has_segment pt_interp 0 segments)) entries
    else None

abbrev pub relro_by : Bool → Relro
relro_by is_bound_now = if is_bound_now then relro.Full else relro.Partial

-- the global offset table is only read if all symbols are bound before it is protected
abbrev pub relro_of : List ProgramHeader → Option Bool → Option Relro
relro_of segments is_bound_now =
    if has_segment pt_gnu_relro 0 segments then option_map relro_by is_bound_now else Some relro.Nothing

-- ---- search paths

-- the entries, if they could be read, with their strings, if these were found; a file without any has no entries
abbrev pub known_entries : Result (Option Entries) ParseError → Option (List Dyn × Option (List ℕ))
known_entries (Ok (Some (machine, entries, strings))) = Some (entries, result_ok strings)
known_entries (Ok None) = Some ([], None)
known_entries (Err e) = None

-- what a file with this type, for this machine, is
abbrev pub kind_of : ℕ → ℕ → ObjectFile → Option FileKind
kind_of e_type machine file =
    file_kind e_type file.segments (option_map (λ k. k.0) (known_entries (entries_of machine file)))

abbrev pub entries_unread : Result (Option Entries) ParseError → List Said
entries_unread (Ok (Some (machine, entries, strings))) = strings_missed strings
entries_unread (Ok None) = []
entries_unread (Err e) = wrong (whole Dynamic) (Read e) ∷ []

-- the number of each entry with a tag, and its value, if the first entry has number n
abbrev pub all_tagged : ℤ → ℕ → List Dyn → List (ℕ × ℕ)
all_tagged tag n entries =
    map (λ (one : ℕ × Dyn). (one.0, d_un_view one.1))
    (filter (λ (one : ℕ × Dyn). has_tag tag one.1) (enumerate_from n entries))

-- those of the last such entry, which counts
abbrev pub last_tagged : ℤ → List Dyn → Option (ℕ × ℕ)
last_tagged tag entries = last_or None (all_tagged tag 0 entries)

-- the string of an entry with this number and this value, and that it cannot be read
abbrev pub path_at : List ℕ → Option (ℕ × ℕ) → Option (List ℕ)
path_at strings (Some one) = result_ok (string_at strings one.1)
path_at strings None = None

abbrev pub path_unread : List ℕ → Option (ℕ × ℕ) → List Said
path_unread strings (Some one) =
    unread (record { part = Dynamic; item = EntryName one.0 }) (string_at strings one.1)
path_unread strings None = []

abbrev pub path_in : ℤ → Option (List Dyn × Option (List ℕ)) → Option (List ℕ)
path_in tag (Some (entries, Some strings)) = path_at strings (last_tagged tag entries)
path_in tag other = None

abbrev pub path_missed : ℤ → Option (List Dyn × Option (List ℕ)) → List Said
path_missed tag (Some (entries, Some strings)) = path_unread strings (last_tagged tag entries)
path_missed tag other = []

-- a folder that is neither absolute nor beside the file
abbrev pub is_unsafe_folder : List ℕ → Bool
is_unsafe_folder folder =
    not (starts_with ◌==◌ folder (codes "/") || starts_with ◌==◌ folder (codes "$ORIGIN")
    || starts_with ◌==◌ folder (codes "${ORIGIN}"))

-- the folders have colons (58) between them; an empty path has none
abbrev pub is_unsafe_path : Option (List ℕ) → Bool
is_unsafe_path (Some path) = nat_lt 0 (length path) && list_any is_unsafe_folder (slice_split (λ b. b == 58) path)
is_unsafe_path None = false

-- ---- symbols

-- the name of a symbol, if it can be read, is one of these
abbrev pub is_named : List ℕ → Symbol → List (List ℕ) → Bool
is_named strings s all = list_any (λ name. is_string name (string_at strings s.st_name)) all

abbrev pub is_canary : List ℕ → Symbol → Bool
is_canary strings s = is_named strings s (map (λ name. name.now) names.CANARIES.now)

-- undefined, and one of the functions of the C library that check the size of their buffers, or of those that could
abbrev pub is_fortified : List ℕ → Symbol → Bool
is_fortified strings s = s.st_shndx == 0 && is_named strings s (map (λ pair. pair.1.now) names.FORTIFIED.now)

abbrev pub is_fortifiable : List ℕ → Symbol → Bool
is_fortifiable strings s = s.st_shndx == 0 && is_named strings s (map (λ pair. pair.0.now) names.FORTIFIED.now)

abbrev pub any_symbol : (List ℕ → Symbol → Bool) → Option (Table × List ℕ) → Option Bool
any_symbol holds symbols = option_map (λ t. list_any (holds t.1) (table_items symbol_reads t.0)) symbols

abbrev pub count_symbols : (List ℕ → Symbol → Bool) → Option (Table × List ℕ) → Option ℕ
count_symbols holds symbols = option_map (λ t. length (filter (holds t.1) (table_items symbol_reads t.0))) symbols

-- the dynamic symbols, or if there are none all symbols, and which these are
abbrev pub symbols_or : Result (Option (Table × List ℕ)) ParseError → Result (Option (Table × List ℕ)) Fault →
    Part × Result (Option (Table × List ℕ)) Fault
symbols_or all (Ok None) = (Symbols, err_map Read all)
symbols_or all linked = (DynamicSymbols, linked)

abbrev pub symbols_of : ObjectFile → Part × Result (Option (Table × List ℕ)) Fault
symbols_of file = symbols_or (symbol_table file) (linked_symbols file)

-- ---- the properties of code

-- the note with the properties is that of the segment of type PT_GNU_PROPERTY; a file without one, as a relocatable
-- file, may have a section for it: the part, the alignment, and the bytes
abbrev pub Properties : Type 0
Properties = Part × ℕ × Result (List ℕ) ParseError

abbrev pub of_segment : ObjectFile → ℕ × ProgramHeader → Properties
of_segment file one = (Segment one.0, one.1.p_align, segment_data file one.1)

abbrev pub of_section : ObjectFile → ℕ × SectionHeader → Properties
of_section file one = (Section one.0, one.1.sh_addralign, content file one.1)

abbrev pub property_segment : List ProgramHeader → Option (ℕ × ProgramHeader)
property_segment segments =
    find (λ (one : ℕ × ProgramHeader). one.1.p_type == pt_gnu_property) (enumerate_from 0 segments)

abbrev pub property_section : ObjectFile → Option (ℕ × SectionHeader)
property_section file = first_named file.sections (codes ".note.gnu.property") (known_names file)

abbrev pub properties_or : ObjectFile → Option (ℕ × ProgramHeader) → Option Properties
properties_or file (Some one) = Some (of_segment file one)
properties_or file None = option_map (of_section file) (property_section file)

abbrev pub properties_of : ObjectFile → Option Properties
properties_of file = properties_or file (property_segment file.segments)

-- the descriptor of the first note with properties
abbrev pub first_properties : List NoteContent → List ℕ
first_properties [] = []
first_properties (AbiTag tag ∷ notes) = first_properties notes
first_properties (BuildId id ∷ notes) = first_properties notes
first_properties (Other n_type name descriptor ∷ notes) =
    if is_property_note n_type name then descriptor else first_properties notes

-- the number of the first property of a type, among no more properties than the first list has bytes
abbrev pub feature_in : Bool → Class → ℕ → List ℕ → List ℕ → Option ℕ
feature_in little class wanted [] rest = None
feature_in little class wanted (byte ∷ bytes) rest = elim (property_at little rest) [
  | Some p ↦ if p.0 == wanted then number_in little rest 8
      else feature_in little class wanted bytes (drop (8 + padded class p.1) rest)
  | None ↦ None
]

-- of bytes of notes that declare this alignment; without such a property the code has none of the features
abbrev pub features_of : Bool → Class → ℕ → ℕ → List ℕ → ℕ
features_of little class wanted align bytes =
    let properties = first_properties (notes_in little (note_align align) bytes) in
    unwrap_or (feature_in little class wanted properties properties) 0

abbrev pub features_by : Bool → Class → Option ℕ → Option Properties → Option ℕ
features_by little class None properties = None
features_by little class (Some wanted) None = Some 0
features_by little class (Some wanted) (Some (part, align, Ok bytes)) = Some (features_of little class wanted align bytes)
features_by little class (Some wanted) (Some (part, align, Err e)) = None

abbrev pub properties_unread : Option Properties → List Said
properties_unread (Some (part, align, Err e)) = wrong (whole part) (Read e) ∷ []
properties_unread other = []

-- ---- a file

-- its type, its machine, and its headers
pub record HeaderTables : Type 0 where
  pub e_type : ℕ
  pub machine : ℕ
  pub segments : List ProgramHeader
  pub sections : List SectionHeader

-- what is read of it
pub record Hardened : Type 0 where
  pub headers : HeaderTables
  pub little : Bool
  pub class : Class
  pub entries : Result (Option Entries) ParseError
  pub symbols : Part × Result (Option (Table × List ℕ)) Fault
  pub properties : Option Properties

-- of a file with this type, for this machine
abbrev pub headers_of : ℕ → ℕ → ObjectFile → HeaderTables
headers_of e_type machine file = record {
  e_type = e_type;
  machine = machine;
  segments = file.segments;
  sections = file.sections;
}

abbrev pub hardened : ℕ → ℕ → ObjectFile → Hardened
hardened e_type machine file = record {
  headers = headers_of e_type machine file;
  little = file.little;
  class = file.class;
  entries = entries_of machine file;
  symbols = symbols_of file;
  properties = properties_of file;
}

abbrev pub paths_of : Option (List Dyn × Option (List ℕ)) → Paths
paths_of known = record { rpath = path_in dt_rpath known; runpath = path_in dt_runpath known }

-- it has no symbols but the dynamic ones
abbrev pub has_symbol_table : List SectionHeader → Bool
has_symbol_table sections = list_any (λ (s : SectionHeader). s.sh_type == sht_symtab) sections

abbrev pub is_stripped : List SectionHeader → Bool
is_stripped sections = not (has_symbol_table sections)

abbrev pub has_unsafe_path : Paths → Bool
has_unsafe_path paths = is_unsafe_path paths.rpath || is_unsafe_path paths.runpath

-- with these dynamic entries and search paths, these symbols and these features
abbrev pub hardening_by : HeaderTables → Option (List Dyn) → Paths → Option (Table × List ℕ) → Option ℕ → Hardening
hardening_by f entries paths symbols features =
    let is_bound_now = option_map binds_now entries in
    record {
      machine = f.machine;
      kind = file_kind f.e_type f.segments entries;
      relro = relro_of f.segments is_bound_now;
      binds_now = is_bound_now;
      has_nx = stack_of f.e_type f.segments;
      writable_code = count_writable_code f.segments;
      has_canary = any_symbol is_canary symbols;
      fortified = count_symbols is_fortified symbols;
      fortifiable = count_symbols is_fortifiable symbols;
      is_path_unsafe = option_map (λ _. has_unsafe_path paths) entries;
      features = features;
      is_stripped = is_stripped f.sections;
    }

-- that it does not meet a requirement
abbrev pub lack_said : Hardening → Requirement → List Said
lack_said h requirement = if meets requirement h then [] else warns (whole File) (Some (lack_text requirement)) ∷ []

abbrev pub judged_said : List ℕ → List Requirement → Hardening → Paths → List Said
judged_said path requirements h paths = hardening_said path h paths ++ flat_map (lack_said h) requirements

-- what of it cannot be read, how it is hardened, and what it lacks
abbrev pub hardened_said : List ℕ → List Requirement → Hardened → List Said
hardened_said path requirements f =
    let known = known_entries f.entries in
    let paths = paths_of known in
    let features = features_by f.little f.class (feature_type f.headers.machine) f.properties in
    entries_unread f.entries ++ path_missed dt_rpath known ++ path_missed dt_runpath known
    ++ fault_said (whole f.symbols.0) f.symbols.1 ++ properties_unread f.properties
    ++ judged_said path requirements
    (hardening_by f.headers (option_map (λ k. k.0) known) paths (if_read f.symbols.1) features) paths

abbrev pub said_of_hardening : List ℕ → List Requirement → ℕ → ℕ → ObjectFile → List Said
said_of_hardening path requirements e_type machine file =
    hardened_said path requirements (hardened e_type machine file)
