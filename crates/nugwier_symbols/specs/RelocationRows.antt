-- What is said of relocations (gABI, chapter "Relocation").
use Rattle.std.specs.Prelude.{ℕ, ◌/◌, ◌%◌, ◌==◌, ◌&&◌, ℤ, Bool, if◌then◌else◌, List, [], ◌∷◌, ◌++◌, Option, Some, None}
use Rattle.std.specs.Prelude.{Result, Ok, codes, false, take, unwrap_or}
use Rattle.std.specs.Option.{option_map}
use Rattle.std.specs.Result.{result_ok}
use Rattle.elf_abi.specs.Values.{em_mips, stt_section}
use Rattle.elf_names.specs.Relocations.{relocation_type_name}
use Rattle.elf_parts.specs.gnu_symver.Table.{Versions}
use Rattle.elf_records.specs.Number.{ok_map}
use Rattle.elf_records.specs.Record.{◌>>=◌}
use Rattle.elf_records.specs.StringTable.{string_at}
use Rattle.elf_records.specs.Symbol.{symbol_reads, symbol_type}
use Rattle.elf_records.specs.Table.{Table, table_get, table_view}
use Rattle.elf_records.specs.declared.file.Class.{Class}
use Rattle.elf_records.specs.declared.file.Class.TheVariants.{ELF32, ELF64}
use Rattle.elf_records.specs.declared.parse.ParseError.{ParseError}
use Rattle.elf_records.specs.declared.relocation.RelocationFields.{RelocationFields}
use Rattle.elf_records.specs.declared.symbol.Symbol.{Symbol}
use Rattle.nugwier_report.specs.Labels.{Named, label_at, named_by, section_name}
use Rattle.nugwier_report.specs.Parts.{part_member, tag_name}
use Rattle.nugwier_layouts.specs.Members.{Content, Members, nothing, number, signed, text, word}
use Rattle.nugwier_report.specs.Said.{Said, states, unread}
use Rattle.nugwier_symbols.specs.SymbolRows.{version_known, version_read}
use Rattle.nugwier_report.specs.SymbolVersion.{Version, version_default, version_name}
use Rattle.nugwier_report.specs.declared.problem.Item.TheVariants.{RelocationSymbol}
use Rattle.nugwier_report.specs.declared.problem.Part.{Part}
use Rattle.nugwier_report.specs.declared.problem.Part.TheVariants as part
use Rattle.nugwier_report.specs.declared.problem.Place.{Place}
use Rattle.nugwier_symbols.specs.declared.relocation_rows.Info.{Info}
use Rattle.nugwier_symbols.specs.declared.relocation_rows.Machine.{Machine}
use Rattle.nugwier_symbols.specs.declared.relocation_rows.MipsInfo.{MipsInfo}
use Rattle.nugwier_symbols.specs.declared.relocation_rows.Symbols.{Symbols}
use Rattle.nugwier_symbols.specs.declared.relocation_rows.TheConstants.{NO_MIPS_INFO}
use Rattle.nugwier_layouts.specs.Layouts.{constant}
use Rattle.nugwier_layouts.specs.declared.layouts.TheConstants as layout

-- ---- r_info

abbrev pub is_mips_64 : Machine → Class → Bool
is_mips_64 machine ELF64 = machine.e_machine == em_mips
is_mips_64 machine ELF32 = false

-- the symbol and the type
abbrev pub plain_info : RelocationFields → Info
plain_info r = record { symbol = r.r_sym; r_type = r.r_type; mips = None }

-- In 64-bit files of MIPS four single bytes follow the symbol: the special symbol, and the third, the second and the
-- first type (64-bit ELF object file specification of MIPS, section 2.9). A reader of one number of 64 bits, which has
-- the symbol in its upper half, finds these bytes in the lower half if the byte order is big; if it is little, the
-- symbol is in the lower half, and the first type is the highest byte.
abbrev pub mips_info : ℕ → ℕ → ℕ → ℕ → ℕ → Info
mips_info symbol first second third special =
    record { symbol = symbol; r_type = first; mips = Some (record { r_type2 = second; r_type3 = third; r_ssym = special }) }

abbrev pub mips_little_info : RelocationFields → Info
mips_little_info r =
    mips_info r.r_type (r.r_sym / 0x1000000) (r.r_sym / 0x10000 % 0x100) (r.r_sym / 0x100 % 0x100) (r.r_sym % 0x100)

abbrev pub mips_big_info : RelocationFields → Info
mips_big_info r =
    mips_info r.r_sym (r.r_type % 0x100) (r.r_type / 0x100 % 0x100) (r.r_type / 0x10000 % 0x100) (r.r_type / 0x1000000)

abbrev pub info_of : Machine → RelocationFields → Info
info_of machine r =
    if is_mips_64 machine machine.class
    then (if machine.is_little then mips_little_info r else mips_big_info r)
    else plain_info r

-- ---- its symbol

-- the symbols that relocations use, with their strings and versions, and the sections, by which some are named
pub record Used : Type 0 where
  pub table : Table
  pub strings : List ℕ
  pub versions : Option Versions
  pub named : Named

abbrev pub used_view : {E V : Type 0} → (V → Versions) → Symbols E V → Used
used_view versions symbols = record {
  table = table_view symbols.table;
  strings = symbols.strings;
  versions = option_map (λ v. versions v.now) symbols.versions;
  named = named_by symbols.labels.now;
}

-- symbol n; none if there are no symbols, and if n is 0, which is none
abbrev pub used_symbol : Option Used → ℕ → Result (Option Symbol) ParseError
used_symbol None n = Ok None
used_symbol (Some used) n = if n == 0 then Ok None else ok_map Some (table_get symbol_reads used.table n)

-- a symbol of a section that has no name is shown by that of the section
abbrev pub symbol_name : Named → List ℕ → Symbol → Result (List ℕ) ParseError
symbol_name named strings s =
    if symbol_type s == stt_section && s.st_name == 0
    then Ok (section_name (label_at named (Some s.st_shndx)))
    else string_at strings s.st_name

abbrev pub name_of_symbol : Used → Symbol → Result (List ℕ) ParseError
name_of_symbol used s = symbol_name used.named used.strings s

abbrev pub name_if : Option Used → Option Symbol → Result (List ℕ) ParseError
name_if (Some used) (Some s) = name_of_symbol used s
name_if _ _ = Ok []

-- the name of symbol n
abbrev pub name_used : Option Used → ℕ → Result (List ℕ) ParseError
name_used used n = used_symbol used n >>= name_if used

abbrev pub version_if : Option Used → ℕ → Result (Option Symbol) ParseError → Result (Option Version) ParseError
version_if (Some used) n (Ok (Some s)) = version_read used.versions n s
version_if _ n symbol = Ok None

-- its version; none if the symbol cannot be read
abbrev pub version_used : Option Used → ℕ → Result (Option Version) ParseError
version_used used n = version_if used n (used_symbol used n)

-- ---- records

-- the tag of the dynamic entry that gives the relocations, if they are not of a section
abbrev pub table_name : Part → Option (List ℕ)
table_name (part.Relocations table) = Some (tag_name table)
table_name _ = None

abbrev pub type_name : Machine → ℕ → Option (List ℕ)
type_name machine r_type = relocation_type_name machine.e_machine r_type

abbrev pub addend_of : Option ℤ → Content
addend_of (Some n) = signed n
addend_of None = nothing

-- relocation i of this part, with the name and the version of its symbol; the last five are of 64-bit files of MIPS
abbrev pub relocation_members : Machine → Part → ℕ → RelocationFields → Info → Option (List ℕ) → Option Version → Members
relocation_members machine part i r info name version =
    let mips = unwrap_or info.mips NO_MIPS_INFO in
    part_member part
    ∷ (codes "index", number i)
    ∷ (codes "r_offset", number r.r_offset)
    ∷ (codes "r_sym", number info.symbol)
    ∷ (codes "name", text name)
    ∷ (codes "version", text (version_name version))
    ∷ (codes "version_is_default", version_default version)
    ∷ (codes "r_type", number info.r_type)
    ∷ (codes "r_type_name", word (type_name machine info.r_type))
    ∷ (codes "r_addend", addend_of r.r_addend)
    ∷ (codes "table", word (table_name part))
    ∷ (codes "r_ssym", number mips.r_ssym)
    ∷ (codes "r_type2", number mips.r_type2)
    ∷ (codes "r_type2_name", word (type_name machine mips.r_type2))
    ∷ (codes "r_type3", number mips.r_type3)
    ∷ (codes "r_type3_name", word (type_name machine mips.r_type3))
    ∷ []

-- other files have the first eleven members
abbrev pub stated : Option MipsInfo → Members → Said
stated (Some mips) members = states (constant layout.MIPS_RELOCATION) members
stated None members = states (constant layout.RELOCATION) (take 11 members)

-- that the name or the version of its symbol cannot be read, then the relocation
abbrev pub relocation_said : Machine → Part → Option Used → ℕ → RelocationFields → List Said
relocation_said machine part used i r =
    let info = info_of machine r in
    let place : Place = record { part = part; item = RelocationSymbol i } in
    let name = name_used used info.symbol in
    let version = version_used used info.symbol in
    unread place name ++ unread place version
    ++ stated info.mips (relocation_members machine part i r info (result_ok name) (version_known version)) ∷ []

-- ---- packed relative relocations, by their addresses alone

abbrev pub relative_members : Part → ℕ → Members
relative_members part address =
    part_member part ∷ (codes "r_offset", number address) ∷ (codes "table", word (table_name part)) ∷ []

abbrev pub relative_said : Part → ℕ → List Said
relative_said part address = states (constant layout.RELATIVE) (relative_members part address) ∷ []
