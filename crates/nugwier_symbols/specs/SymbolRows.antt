-- What is said of symbols (gABI, chapter "Symbol Table").
use Rattle.std.specs.Prelude.{ℕ, ◌==◌, ◌&&◌, ◌||◌, not, Bool, true, if◌then◌else◌, bit_and, nat_eq, List, []}
use Rattle.std.specs.Prelude.{◌∷◌, ◌++◌, drop}
use Rattle.std.specs.Prelude.{Option, Some, None, Result, Ok, Err, codes}
use Rattle.std.specs.Char.{to_ascii_uppercase}
use Rattle.std.specs.List.{slice_get, starts_with}
use Rattle.std.specs.Result.{result_ok}
use Rattle.elf_abi.specs.Names.{name_of}
use Rattle.elf_abi.specs.SymbolNames.{st_bind_names, st_symtype_names, st_vis_names}
use Rattle.elf_abi.specs.Values.{shf_alloc, shf_execinstr, shf_write, shn_abs, shn_common, shn_undef, shn_xindex}
use Rattle.elf_abi.specs.Values.{sht_nobits, stb_gnu_unique, stb_local, stb_weak, stt_common, stt_func, stt_gnu_ifunc}
use Rattle.elf_abi.specs.Values.{stt_object, stt_tls}
use Rattle.elf_parts.specs.gnu_symver.Table.{Versions}
use Rattle.elf_records.specs.StringTable.{string_at}
use Rattle.elf_records.specs.Symbol.{symbol_binding, symbol_type, symbol_visibility}
use Rattle.elf_records.specs.declared.parse.ParseError.{ParseError}
use Rattle.elf_records.specs.declared.section.SectionHeader.{SectionHeader}
use Rattle.elf_records.specs.declared.symbol.Symbol.{Symbol}
use Rattle.nugwier_layouts.specs.Members.{Members, character, number, text}
use Rattle.nugwier_report.specs.Said.{Said, states, unread}
use Rattle.nugwier_layouts.specs.Members.{word}
use Rattle.nugwier_symbols.specs.SymbolOptions.{is_selected, row_layout}
use Rattle.nugwier_report.specs.SymbolVersion.{Version, version_default, version_name}
use Rattle.nugwier_symbols.specs.SymbolVersions.{shown_version}
use Rattle.nugwier_report.specs.declared.problem.Item.TheVariants.{SymbolName, SymbolVersion}
use Rattle.nugwier_report.specs.declared.problem.Part.{Part}
use Rattle.nugwier_report.specs.declared.problem.Part.TheVariants as part
use Rattle.nugwier_symbols.specs.declared.symbol_options.SymbolOptions.{SymbolOptions}
use Rattle.nugwier_symbols.specs.declared.symbol_options.SymbolOrder.{SymbolOrder}
use Rattle.nugwier_symbols.specs.declared.symbol_options.SymbolOrder.TheVariants.{Table}
use Rattle.nugwier_symbols.specs.declared.symbol_rows.Form.{Form}
use Rattle.nugwier_symbols.specs.declared.symbol_rows.Form.TheVariants.{Export, Fields, Letter}
use Rattle.nugwier_layouts.specs.Layouts.{Layout, constant}
use Rattle.nugwier_layouts.specs.declared.layouts.TheConstants as layout

-- the name of a section number that is no section
abbrev pub st_shndx_name : ℕ → Option (List ℕ)
st_shndx_name n =
    if n == shn_undef then Some (codes "SHN_UNDEF") else if n == shn_abs then Some (codes "SHN_ABS")
    else if n == shn_common then Some (codes "SHN_COMMON")
    else if n == shn_xindex then Some (codes "SHN_XINDEX") else None

-- the type of the section that has the symbols
abbrev pub table_name : Part → Option (List ℕ)
table_name part.Symbols = Some (codes "SHT_SYMTAB")
table_name part.DynamicSymbols = Some (codes "SHT_DYNSYM")
table_name _ = None

-- ---- letters, as nm has them

-- the flags of a section have a bit
abbrev pub has_flag : ℕ → SectionHeader → Bool
has_flag bit s = not (bit_and s.sh_flags bit == 0)

abbrev pub data_letter : SectionHeader → ℕ
data_letter s = if has_flag shf_write s then 0x64 else 0x72  -- d, r

-- the names of sections for debuggers begin so, or the last one is the whole name (BFD, _bfd_elf_make_section_from_shdr)
abbrev pub is_for_debugging : List ℕ → Bool
is_for_debugging name =
    starts_with ◌==◌ name (codes ".debug") || starts_with ◌==◌ name (codes ".zdebug")
    || starts_with ◌==◌ name (codes ".gnu.debuglto_.debug_") || starts_with ◌==◌ name (codes ".gnu.linkonce.wi.")
    || starts_with ◌==◌ name (codes ".line") || starts_with ◌==◌ name (codes ".stab")
    || starts_with ◌==◌ name (codes ".gdb_index\0")

-- of a section whose name is in these strings: code, what has no bytes in the file, and data; of what is not loaded, what
-- is for debuggers, what can be written, and the rest (BFD, decode_section_type)
abbrev pub letter_in : List ℕ → SectionHeader → ℕ
letter_in names s =
    if has_flag shf_execinstr s then 0x74  -- t
    else if s.sh_type == sht_nobits then 0x62  -- b
    else if has_flag shf_alloc s then data_letter s
    else if is_for_debugging (drop s.sh_name names) then 0x4e  -- N
    else if has_flag shf_write s then 0x3f  -- ?
    else 0x6e  -- n

abbrev pub letter_in_one : List ℕ → Option SectionHeader → ℕ
letter_in_one names (Some s) = letter_in names s
letter_in_one names None = 0x3f  -- ?

-- of what is in this section, or of an absolute value
abbrev pub section_letter : List SectionHeader → List ℕ → ℕ → ℕ
section_letter sections names n =
    if n == shn_abs then 0x61 else letter_in_one names (slice_get sections n)  -- a

abbrev pub undefined_letter : Symbol → ℕ
undefined_letter s =
    if not (symbol_binding s == stb_weak) then 0x55  -- U
    else if symbol_type s == stt_object then 0x76  -- v
    else 0x77  -- w

abbrev pub weak_letter : Symbol → ℕ
weak_letter s = if symbol_type s == stt_object then 0x56 else 0x57  -- V, W

-- the section's letter: in lower case if the symbol is local
abbrev pub cased_letter : Symbol → ℕ → ℕ
cased_letter s letter = if symbol_binding s == stb_local then letter else to_ascii_uppercase letter

abbrev pub letter_of : List SectionHeader → List ℕ → Symbol → ℕ
letter_of sections names s =
    if s.st_shndx == shn_common then 0x43  -- C
    else if s.st_shndx == shn_undef then undefined_letter s
    else if symbol_type s == stt_gnu_ifunc then 0x69  -- i
    else if symbol_binding s == stb_weak then weak_letter s
    else if symbol_binding s == stb_gnu_unique then 0x75  -- u
    else cased_letter s (section_letter sections names s.st_shndx)

-- ---- what is shown of symbols

-- all fields; a letter, in a file with these sections, whose names are in these strings, by the options of nm; names and
-- versions alone, of exports or of the functions among them
pub data Manner : Type 0 where
  all_fields : Manner
  by_letter : List SectionHeader → List ℕ → SymbolOptions → Manner
  exports_alone : Bool → Manner

abbrev pub form_view : Form → Manner
form_view Fields = all_fields
form_view (Letter sections names options) = by_letter sections.now names.now options
form_view (Export functions_only) = exports_alone functions_only

-- the order of the symbols
abbrev pub order_of : Manner → SymbolOrder
order_of (by_letter sections names options) = options.order
order_of _ = Table

-- it is a function (STT_FUNC) or one that is chosen when the file is loaded (STT_GNU_IFUNC)
abbrev pub is_function : Symbol → Bool
is_function s = symbol_type s == stt_func || symbol_type s == stt_gnu_ifunc

-- it is an object (STT_OBJECT), one for each thread (STT_TLS) or a common one (STT_COMMON), and has a place: a symbol of
-- a version is an absolute object
abbrev pub is_data : Symbol → Bool
is_data s =
    (symbol_type s == stt_object || symbol_type s == stt_tls || symbol_type s == stt_common)
    && not (s.st_shndx == shn_abs)

-- a section defines it, it is not local, and it is a function or, unless only these are asked for, data in this sense
abbrev pub is_export : Bool → Symbol → Bool
is_export functions_only s =
    not (s.st_shndx == shn_undef) && not (symbol_binding s == stb_local)
    && (is_function s || not functions_only && is_data s)

-- the symbol has a row
abbrev pub is_listed : Manner → ℕ → Symbol → Bool
is_listed all_fields i s = true
is_listed (by_letter sections names options) i s = is_selected options i s
is_listed (exports_alone functions_only) i s = is_export functions_only s

abbrev pub symbol_layout : Manner → Symbol → Layout
symbol_layout all_fields s = constant layout.SYMBOL
symbol_layout (by_letter sections names options) s = row_layout options s
symbol_layout (exports_alone functions_only) s = constant layout.EXPORT

-- the letter, if it is shown
abbrev pub shown_letter : Manner → Symbol → Option ℕ
shown_letter (by_letter sections names options) s = Some (letter_of sections names s)
shown_letter _ s = None

-- ---- versions

-- of symbol i, if there are versions
abbrev pub version_read : Option Versions → ℕ → Symbol → Result (Option Version) ParseError
version_read None i s = Ok None
version_read (Some versions) i s = shown_version versions i s

-- none if it cannot be read
abbrev pub version_known : Result (Option Version) ParseError → Option Version
version_known (Ok version) = version
version_known (Err e) = None

-- ---- records

-- symbol i of this part of the file, with this name, this version and this letter
abbrev pub symbol_members : Part → ℕ → Symbol → Option (List ℕ) → Option Version → Option ℕ → Members
symbol_members part i s name version letter =
    (codes "table", word (table_name part))
    ∷ (codes "index", number i)
    ∷ (codes "st_name", number s.st_name)
    ∷ (codes "name", text name)
    ∷ (codes "st_info", number s.st_info)
    ∷ (codes "st_bind", number (symbol_binding s))
    ∷ (codes "st_bind_name", word (name_of nat_eq st_bind_names (symbol_binding s)))
    ∷ (codes "st_type", number (symbol_type s))
    ∷ (codes "st_type_name", word (name_of nat_eq st_symtype_names (symbol_type s)))
    ∷ (codes "st_other", number s.st_other)
    ∷ (codes "st_visibility", number (symbol_visibility s))
    ∷ (codes "st_visibility_name", word (name_of nat_eq st_vis_names (symbol_visibility s)))
    ∷ (codes "st_shndx", number s.st_shndx)
    ∷ (codes "st_shndx_name", word (st_shndx_name s.st_shndx))
    ∷ (codes "st_value", number s.st_value)
    ∷ (codes "st_size", number s.st_size)
    ∷ (codes "version", text (version_name version))
    ∷ (codes "version_is_default", version_default version)
    ∷ (codes "letter", character letter)
    ∷ []

-- of symbol i of this part, with its name in these strings, and its version
abbrev pub symbol_record : Manner → Part → List ℕ → ℕ → Symbol → Option Version → Said
symbol_record manner part strings i s version =
    states (symbol_layout manner s)
    (symbol_members part i s (result_ok (string_at strings s.st_name)) version (shown_letter manner s))

-- that its name or its version cannot be read, then the symbol; nothing of a symbol without a row
abbrev pub symbol_said : Manner → Part → List ℕ → Option Versions → ℕ → Symbol → List Said
symbol_said manner part strings versions i s =
    if is_listed manner i s then
    unread (record { part = part; item = SymbolName i }) (string_at strings s.st_name)
    ++ unread (record { part = part; item = SymbolVersion i }) (version_read versions i s)
    ++ symbol_record manner part strings i s (version_known (version_read versions i s)) ∷ []
    else []
