-- The text of a problem: a line with the path of the file and the place.
use Rattle.std.specs.Prelude.{◌≡◌, ℕ, ◌==◌, if◌then◌else◌, ◌++◌, List, Option, Some, None, IfSome, codes}
use Rattle.std.specs.Fmt.{◌++?◌, decimal}
use Rattle.elf_dynamic.specs.Texts.{error_text as linked_text}
use Rattle.elf_records.specs.Texts.{error_text as read_text, words}
use Rattle.elfshow_lines.specs.Pieces.{hex, newline}
use Rattle.nugwier_layouts.specs.Escape.{shown_bytes}
use Rattle.nugwier_report.specs.Parts.{tag_name}
use Rattle.nugwier_report.specs.declared.problem.Fault.{Fault}
use Rattle.nugwier_report.specs.declared.problem.Fault.TheVariants as fault
use Rattle.nugwier_report.specs.declared.problem.Item.{Item}
use Rattle.nugwier_report.specs.declared.problem.Item.TheVariants as item
use Rattle.nugwier_report.specs.declared.problem.Part.{Part}
use Rattle.nugwier_report.specs.declared.problem.Part.TheVariants as part
use Rattle.nugwier_report.specs.declared.problem.Place.{Place}

-- ---- a place

abbrev pub part_text : Part → List ℕ
part_text part.File = codes "file"
part_text part.SectionHeaders = codes "section headers"
part_text part.SectionNames = codes "names of the sections"
part_text (part.Section k) = codes "section " ++ decimal k
part_text (part.Segment k) = codes "segment " ++ decimal k
part_text part.Symbols = codes "symbols"
part_text part.DynamicSymbols = codes "dynamic symbols"
part_text part.Versions = codes "versions"
part_text part.Dynamic = codes "dynamic entries"
part_text part.DynamicStrings = codes "strings of the dynamic entries"
part_text part.BuildId = codes "build id"
part_text (part.Address address) = codes "address " ++ hex address
part_text part.LoadPlan = codes "load plan"
part_text (part.Relocations table) = codes "relocations of " ++ tag_name table

abbrev pub version_name : ℕ → List ℕ
version_name k =
    if k == 0 then codes ": name of a needed file: " else codes ": name of version " ++ (decimal k ++ codes ": ")

abbrev pub item_text : Item → List ℕ
item_text item.Whole = codes ": "
item_text item.Name = codes ": name: "
item_text item.Symbols = codes ": symbols: "
item_text (item.SymbolName k) = codes ": name of symbol " ++ (decimal k ++ codes ": ")
item_text (item.SymbolVersion k) = codes ": version of symbol " ++ (decimal k ++ codes ": ")
item_text (item.EntryName k) = codes ": string of entry " ++ (decimal k ++ codes ": ")
item_text (item.RelocationSymbol k) = codes ": symbol of relocation " ++ (decimal k ++ codes ": ")
item_text (item.VersionName k) = version_name k
item_text item.Signature = codes ": signature: "
item_text (item.Member k) = codes ": member " ++ (decimal k ++ codes ": ")

-- ---- a fault

-- names and paths of files, escaped
abbrev pub quoted : List ℕ → Option (List ℕ)
quoted name = Some (shown_bytes name)

abbrev pub fault_text : Fault → Option (List ℕ)
fault_text (fault.Read e) = read_text e
fault_text (fault.Linked e) = linked_text e
fault_text fault.Missing = words (codes "the file has none")
fault_text fault.Repeated = words (codes "left out: those up to here have more bytes than the file")
fault_text fault.LongChains = words (codes "its chains do not end, or share symbols")

-- that no section has this name or this number
abbrev pub no_section_text : List ℕ → Option (List ℕ)
no_section_text name = words (codes "no section ") ++? quoted name

-- a text that a fault has: the one that is stated, if one is. The error of the system has its own text, which is not
-- stated: None
abbrev pub IsTextOf : Option (List ℕ) → List ℕ → Type 0
IsTextOf stated t = IfSome stated (λ text. t ≡ text)

-- ---- a problem

-- the file as a whole has no text of its own
abbrev pub in_part : Part → Item → List ℕ → List ℕ
in_part part.File i t = t
in_part p i t = part_text p ++ (item_text i ++ t)

-- its place, with the number and the name of the section, if it is in one, and the text of its fault
abbrev pub problem_text : Option (ℕ × List ℕ) → Place → List ℕ → List ℕ
problem_text (Some section) place t =
    codes "section " ++ (decimal section.0 ++ (codes " (" ++ (shown_bytes section.1
    ++ (codes ")" ++ (item_text place.item ++ t)))))
problem_text None place t = in_part place.part place.item t

-- what is told of a problem in this section, by a text of its fault
abbrev pub IsTextAt : Option (ℕ × List ℕ) → Place → Option (List ℕ) → List ℕ → Type 0
IsTextAt section place stated told = (t : List ℕ) × IsTextOf stated t × (told ≡ problem_text section place t)

-- the line of a problem, with the path of the file
abbrev pub problem_line : List ℕ → List ℕ → List ℕ
problem_line path told = (codes "nugwier: " ++ (shown_bytes path ++ (codes ": " ++ told))) ++ newline
