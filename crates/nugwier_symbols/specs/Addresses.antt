-- What is said of addresses, by the symbols of a file.
use Rattle.std.specs.Prelude.{ℕ, ◌≡◌, ◌==◌, if◌then◌else◌, List, [], ◌∷◌, map, Option, Some, None, Result, Ok, Err}
use Rattle.std.specs.Option.{option_map}
use Rattle.elf_abi.specs.Values.{et_rel}
use Rattle.elf.specs.Answers.{symbol_table}
use Rattle.elf.specs.ObjectFile.{ObjectFile, err_map}
use Rattle.elf_records.specs.Symbol.{symbol_reads}
use Rattle.elf_records.specs.Table.{Table, table_items}
use Rattle.elf_records.specs.declared.section.SectionHeader.{SectionHeader}
use Rattle.elf_tools.specs.Addresses.{IsByAddress, located_symbols}
use Rattle.elf_tools.specs.declared.addresses.Located.{Located}
use Rattle.nugwier_report.specs.NamedSections.{section_of}
use Rattle.nugwier_report.specs.Linked.{linked_symbols}
use Rattle.nugwier_symbols.specs.AddressRows.{address_said}
use Rattle.nugwier_report.specs.Said.{Said, numbered, whole, wrong}
use Rattle.nugwier_symbols.specs.declared.address_rows.Among.{Among}
use Rattle.nugwier_symbols.specs.declared.address_rows.Among.TheVariants as among
use Rattle.nugwier_symbols.specs.declared.address_rows.PlacedAddress.{PlacedAddress}
use Rattle.nugwier_report.specs.declared.problem.Fault.{Fault}
use Rattle.nugwier_report.specs.declared.problem.Fault.TheVariants.{Missing, Read}
use Rattle.nugwier_report.specs.declared.problem.Part.TheVariants.{Symbols}
use Rattle.nugwier_symbols.specs.declared.addresses.AskedAddress.{AskedAddress}
use Rattle.std.specs.Borrow.{Bor}

-- an address, and the section that it is in, if one is given
pub record Sought : Type 0 where
  pub section : Option (List ℕ)
  pub address : ℕ

abbrev pub text_of : Option (Bor (List ℕ)) → Option (List ℕ)
text_of word = option_map (λ (w : Bor (List ℕ)). w.now) word

abbrev pub sought : AskedAddress → Sought
sought asked = record { section = text_of asked.section; address = asked.address }

-- the first answer, or if there is none of it the second
abbrev pub first_found : {A : Type 0} → Result (Option A) Fault → Result (Option A) Fault → Result (Option A) Fault
first_found (Ok (Some x)) other = Ok (Some x)
first_found (Ok None) other = other
first_found (Err e) other = Err e

-- the symbols of a file, or if there are none the dynamic ones
abbrev pub all_symbols : ObjectFile → Result (Option (Table × List ℕ)) Fault
all_symbols file = first_found (err_map Read (symbol_table file)) (linked_symbols file)

-- the symbols of the section that a word names, if it names one
abbrev pub among_named : List ℕ → Option (ℕ × SectionHeader) → Among
among_named word (Some one) = among.Section one.0
among_named word None = among.NoSection word

-- The symbols among which that of an address is looked for: those of its section, or if none is given all. In a
-- relocatable file the values of symbols are offsets in their sections (gABI, "Symbol Values"), and so is an address.
abbrev pub among_of : ℕ → ObjectFile → Option (List ℕ) → Among
among_of e_type file (Some word) = among_named word (section_of file word)
among_of e_type file None = if e_type == et_rel then among.Unknown else among.File

abbrev pub placed : ℕ → ObjectFile → Sought → PlacedAddress
placed e_type file one = record { address = one.address; among = among_of e_type file one.section }

-- of each address, in order. Sorting by address leaves no choice, since it keeps the order of equal ones.
abbrev pub AreEachSaid : ℕ → List PlacedAddress → Table × List ℕ → List Said → Type 0
AreEachSaid machine addresses symbols said =
    (sorted : List Located) × IsByAddress (located_symbols machine (table_items symbol_reads symbols.0)) sorted
    × (said ≡ numbered (λ i one. address_said sorted symbols.0 symbols.1 one) 0 addresses)

-- of symbols, which have to be there, and then of each address
abbrev pub AreSaidBy : ℕ → List PlacedAddress → Result (Option (Table × List ℕ)) Fault → List Said → Type 0
AreSaidBy machine addresses (Ok (Some symbols)) said = AreEachSaid machine addresses symbols said
AreSaidBy machine addresses (Ok None) said = said ≡ wrong (whole Symbols) Missing ∷ []
AreSaidBy machine addresses (Err fault) said = said ≡ wrong (whole Symbols) fault ∷ []

-- what is said of these addresses in a file
abbrev pub AreAddressesSaid : ℕ → ℕ → List Sought → ObjectFile → List Said → Type 0
AreAddressesSaid e_type machine addresses file said =
    AreSaidBy machine (map (placed e_type file) addresses) (all_symbols file) said
