-- What is said of addresses: the symbol that starts at each, or before it.
use Rattle.std.specs.Prelude.{ℕ, Bool, true, false, List, [], ◌∷◌, ◌++◌, Option, Some, None, Result, codes}
use Rattle.std.specs.Result.{result_ok}
use Rattle.elf_records.specs.Record.{◌>>=◌}
use Rattle.elf_records.specs.StringTable.{string_at}
use Rattle.elf_records.specs.Symbol.{symbol_reads}
use Rattle.elf_records.specs.Table.{Table, table_get}
use Rattle.elf_records.specs.declared.parse.ParseError.{ParseError}
use Rattle.elf_tools.specs.Addresses.{nearest, nearest_in}
use Rattle.elf_tools.specs.declared.addresses.Located.{Located}
use Rattle.elf_tools.specs.declared.addresses.Nearest.{Nearest}
use Rattle.nugwier_layouts.specs.Members.{Content, Members, flag, nothing, number, text}
use Rattle.nugwier_report.specs.Said.{Said, states, unread, warns, whole}
use Rattle.nugwier_symbols.specs.declared.address_rows.Among.{Among}
use Rattle.nugwier_symbols.specs.declared.address_rows.Among.TheVariants as among
use Rattle.nugwier_symbols.specs.declared.address_rows.PlacedAddress.{PlacedAddress}
use Rattle.nugwier_report.specs.Problems.{no_section_text}
use Rattle.nugwier_report.specs.declared.problem.Item.TheVariants.{Name}
use Rattle.nugwier_report.specs.declared.problem.Part.TheVariants.{Address}
use Rattle.nugwier_layouts.specs.Layouts.{Layout, constant}
use Rattle.nugwier_layouts.specs.declared.layouts.TheConstants as layout
use Rattle.nugwier_symbols.specs.declared.address_rows.AddressFault.{AddressFault}
use Rattle.nugwier_symbols.specs.declared.address_rows.AddressFault.TheVariants as fault

-- the name of symbol i of a table, in these strings
abbrev pub symbol_name : Table → List ℕ → ℕ → Result (List ℕ) ParseError
symbol_name table strings i = table_get symbol_reads table i >>= λ symbol. string_at strings symbol.st_name

abbrev pub address_layout : Bool → Layout
address_layout true = constant layout.INSIDE
address_layout false = constant layout.PAST_END

-- the section that an address is in, if it is looked for in one
abbrev pub section_content : Among → Content
section_content (among.Section k) = number k
section_content other = nothing

-- an address, with its nearest symbol and the name of this, and the section
abbrev pub address_members : PlacedAddress → Nearest → Option (List ℕ) → Members
address_members one found name =
    (codes "address", number one.address)
    ∷ (codes "symbol", number found.symbol)
    ∷ (codes "name", text name)
    ∷ (codes "distance", number found.distance)
    ∷ (codes "is_inside", flag found.is_inside)
    ∷ (codes "value", number found.value)
    ∷ (codes "section", section_content one.among)
    ∷ []

-- why an address has no symbol
unfoldable pub fault_text : AddressFault → Option (List ℕ)
fault_text fault.NoSymbol = Some (codes "no symbol starts there or before it")
fault_text fault.NeedsSection = Some (codes "in a relocatable file an address needs a section, as SECTION:ADDRESS")

-- that the name of the nearest symbol cannot be read, then the address; if there is no symbol, that there is none
abbrev pub nearest_said : Table → List ℕ → PlacedAddress → Option Nearest → List Said
nearest_said table strings one None = warns (whole (Address one.address)) (fault_text fault.NoSymbol) ∷ []
nearest_said table strings one (Some found) =
    let name = symbol_name table strings found.symbol in
    unread (record { part = Address one.address; item = Name }) name
    ++ states (address_layout found.is_inside) (address_members one found (result_ok name)) ∷ []

-- by the symbols in the order of their addresses: by all, or by those of the section; or why it is looked for in none
abbrev pub said_among : Among → List Located → Table → List ℕ → PlacedAddress → List Said
said_among among.File sorted table strings one = nearest_said table strings one (nearest one.address sorted)
said_among (among.Section k) sorted table strings one =
    nearest_said table strings one (nearest_in k one.address sorted)
said_among (among.NoSection word) sorted table strings one =
    warns (whole (Address one.address)) (no_section_text word) ∷ []
said_among among.Unknown sorted table strings one =
    warns (whole (Address one.address)) (fault_text fault.NeedsSection) ∷ []

abbrev pub address_said : List Located → Table → List ℕ → PlacedAddress → List Said
address_said sorted table strings one = said_among one.among sorted table strings one
