-- What is said of the symbols of a file.
use Rattle.std.specs.Prelude.{ℕ, ◌+◌, ◌≡◌, ◌==◌, if◌then◌else◌, Bool, true, false, List, [], ◌∷◌, ◌++◌, length, Option, Some}
use Rattle.std.specs.Prelude.{None, Result, Ok, Err}
use Rattle.std.specs.List.{enumerate_from}
use Rattle.std.specs.List.Sorted.{IsNonDecreasingBy, IsPermutation, IsStableByKey}
use Rattle.std.specs.Ordering.{nat_cmp}
use Rattle.elf.specs.Answers.{symbol_table}
use Rattle.elf.specs.ObjectFile.{ObjectFile, err_map}
use Rattle.elf_abi.specs.Values.{shn_undef}
use Rattle.elf_parts.specs.gnu_symver.Table.{Versions}
use Rattle.elf_records.specs.Symbol.{symbol_reads}
use Rattle.elf_records.specs.Table.{Table, table_items}
use Rattle.elf_records.specs.declared.symbol.Symbol.{Symbol}
use Rattle.nugwier_report.specs.Headings.{count_members, name_bytes}
use Rattle.nugwier_report.specs.Linked.{linked_symbols, linked_versions}
use Rattle.nugwier_report.specs.Reading.{fault_said, found_said, if_read, missing}
use Rattle.nugwier_report.specs.Said.{Said, numbered, states, whole, wrong}
use Rattle.nugwier_symbols.specs.SymbolRows.{Manner, all_fields, by_letter, exports_alone, order_of, symbol_said}
use Rattle.nugwier_report.specs.declared.problem.Fault.{Fault}
use Rattle.nugwier_report.specs.declared.problem.Fault.TheVariants.{Read}
use Rattle.nugwier_report.specs.declared.problem.Part.{Part}
use Rattle.nugwier_report.specs.declared.problem.Part.TheVariants.{DynamicSymbols, Symbols, Versions as VersionPart}
use Rattle.nugwier_symbols.specs.declared.symbol_options.SymbolOptions.{SymbolOptions}
use Rattle.nugwier_symbols.specs.declared.symbol_options.SymbolOrder.{SymbolOrder}
use Rattle.nugwier_symbols.specs.declared.symbol_options.SymbolOrder.TheVariants as order
use Rattle.nugwier_layouts.specs.Layouts.{constant}
use Rattle.nugwier_layouts.specs.declared.layouts.TheConstants as layout

-- ---- the order of symbols

-- the symbols of a table, each with its number
abbrev pub rows_of : Table → List (ℕ × Symbol)
rows_of table = enumerate_from 0 (table_items symbol_reads table)

-- what symbols are ordered by: by value undefined ones come first
abbrev pub order_key : SymbolOrder → Symbol → ℕ
order_key order.Table s = 0
order_key order.Value s = if s.st_shndx == shn_undef then 0 else s.st_value + 1
order_key order.Size s = s.st_size

-- the same symbols, in ascending order of this number; equal ones are in the order that they had, so sorting leaves no
-- choice
pub record IsByKey (key : Symbol → ℕ) (all sorted : List (ℕ × Symbol)) : Type 0 where
  pub same : IsPermutation all sorted
  pub ascending : IsNonDecreasingBy (λ (one : ℕ × Symbol). key one.1) sorted
  pub stable : IsStableByKey (λ (one : ℕ × Symbol). key one.1) nat_cmp all sorted

abbrev pub IsOrdered : SymbolOrder → List (ℕ × Symbol) → List (ℕ × Symbol) → Type 0
IsOrdered order.Table all rows = rows ≡ all
IsOrdered other all rows = IsByKey (order_key other) all rows

-- ---- the symbols of a table

-- above this number of rows
abbrev pub heading_said : Manner → Part → ℕ → List Said
heading_said all_fields Symbols count = states (constant layout.SYMBOLS_HEADING) (count_members count) ∷ []
heading_said all_fields _ count = states (constant layout.DYNAMIC_SYMBOLS_HEADING) (count_members count) ∷ []
heading_said _ part count = []

-- of symbols of this part, with their strings and versions
abbrev pub rows_said : Manner → Part → Option Versions → List (ℕ × Symbol) → List ℕ → List Said
rows_said manner part versions rows strings =
    numbered (λ i one. symbol_said manner part strings versions one.0 one.1) 0 rows

-- that the versions cannot be read, then the symbols
abbrev pub versioned_said : Manner → Part → Result (Option Versions) Fault → List (ℕ × Symbol) → List ℕ → List Said
versioned_said manner part versions rows strings =
    fault_said (whole VersionPart) versions ++ heading_said manner part (length rows)
    ++ rows_said manner part (if_read versions) rows strings

-- if there are none: a listing of all fields needs none
abbrev pub none_said : Manner → Part → List Said
none_said all_fields part = []
none_said _ part = missing part

-- in the order of the table
abbrev pub whole_said : Manner → Part → Result (Option Versions) Fault → Result (Option (Table × List ℕ)) Fault → List Said
whole_said manner part versions =
    found_said part (none_said manner part)
    (λ symbols. versioned_said manner part versions (rows_of symbols.0) symbols.1)

-- in the order that is asked for
abbrev pub AreTableSaid : Manner → Part → Result (Option Versions) Fault → Result (Option (Table × List ℕ)) Fault →
    List Said → Type 0
AreTableSaid manner part versions (Ok (Some symbols)) said =
    (rows : List (ℕ × Symbol)) × IsOrdered (order_of manner) (rows_of symbols.0) rows
    × (said ≡ versioned_said manner part versions rows symbols.1)
AreTableSaid manner part versions (Ok None) said = said ≡ none_said manner part
AreTableSaid manner part versions (Err fault) said = said ≡ wrong (whole part) fault ∷ []

-- ---- `list`

abbrev pub said_of_symbols : ObjectFile → List Said
said_of_symbols file = whole_said all_fields Symbols (Ok None) (err_map Read (symbol_table file))

-- the dynamic symbols, with their versions
abbrev pub said_of_dynamic_symbols : ObjectFile → List Said
said_of_dynamic_symbols file = whole_said all_fields DynamicSymbols (linked_versions file) (linked_symbols file)

-- ---- `symbols` and `exports`

abbrev pub AreLinkedSaid : Manner → ObjectFile → List Said → Type 0
AreLinkedSaid manner file said = AreTableSaid manner DynamicSymbols (linked_versions file) (linked_symbols file) said

-- those of the section of type SHT_SYMTAB, or if there is none the dynamic ones
abbrev pub AreAllSaid : Manner → ObjectFile → Result (Option (Table × List ℕ)) Fault → List Said → Type 0
AreAllSaid manner file (Ok None) said = AreLinkedSaid manner file said
AreAllSaid manner file found said = AreTableSaid manner Symbols (Ok None) found said

abbrev pub AreLettersSaid : Bool → Manner → ObjectFile → List Said → Type 0
AreLettersSaid true manner file said = AreLinkedSaid manner file said
AreLettersSaid false manner file said = AreAllSaid manner file (err_map Read (symbol_table file)) said

-- by the options
abbrev pub AreSymbolsSaid : SymbolOptions → ObjectFile → List Said → Type 0
AreSymbolsSaid options file said =
    AreLettersSaid options.is_dynamic (by_letter file.sections (name_bytes file) options) file said

-- what the file defines for others, in the order of the table
abbrev pub AreExportsSaid : SymbolOptions → ObjectFile → List Said → Type 0
AreExportsSaid options file said = AreLinkedSaid (exports_alone options.functions_only) file said
