-- When symbols are sound (gABI, chapter "Symbol Table"), and what their faults say.
use Rattle.std.specs.Prelude.{◌≡◌, ◌≢◌, ◌⊎◌, ℕ, ◌%◌, ◌<◌, ◌≤◌, ◌==◌, ◌||◌, Bool, List, [], length, map, slice_get}
use Rattle.std.specs.Prelude.{Some, IsOk, IsErr}
use Rattle.std.specs.Result.{IsOkAnd, result_unwrap_or}
use Rattle.elf_abi.specs.Values.{shn_loreserve, sht_dynsym, sht_strtab, sht_symtab}
use Rattle.elf_records.specs.Record.{size_by}
use Rattle.elf_records.specs.StringTable.{string_at}
use Rattle.elf_records.specs.Symbol.{symbol_layout}
use Rattle.elf_records.specs.Table.{Table}
use Rattle.elf_records.specs.declared.section.SectionHeader.{SectionHeader}
use Rattle.elf_records.specs.declared.symbol.Symbol.{Symbol}
use Rattle.elf_parts.specs.Hash.{symbol_at}
use Rattle.elf.specs.Answers.{symbols_of, with_linked}
use Rattle.elf.specs.ObjectFile.{ObjectFile}
use Rattle.elf_check.specs.Members.{AllSound, IsFirstFault}
use Rattle.elf_check.specs.declared.faults.SymbolFault.{SymbolFault}
use Rattle.elf_check.specs.declared.faults.SymbolFault.TheVariants.{NoName, NoSection}
use Rattle.elf_check.specs.declared.faults.SymbolsFault.{SymbolsFault}
use Rattle.elf_check.specs.declared.faults.SymbolsFault.TheVariants.{At, BadLink, LinkedToNoStrings, NoSymbols}
use Rattle.elf_check.specs.declared.faults.SymbolsFault.TheVariants.{PartOfSymbol}

-- the name can be read, and the section is one of the file's, unless its number is reserved
pub record SoundSymbol (sections : ℕ) (strings : List ℕ) (symbol : Symbol) : Type 0 where
  pub name : IsOk (string_at strings symbol.st_name)
  pub section : symbol.st_shndx < shn_loreserve → symbol.st_shndx < sections

-- each symbol of a table
abbrev pub SoundSymbolTable : ℕ → Table → List ℕ → Type 0
SoundSymbolTable sections symbols strings = AllSound (symbol_at symbols) (SoundSymbol sections strings)

-- the section has the entry size of symbols and is linked to strings
abbrev pub LinksToStrings : ObjectFile → SectionHeader → Type 0
LinksToStrings file s = IsOkAnd (with_linked file s) (λ pair. pair.1.sh_type ≡ sht_strtab)

-- its bytes are a whole number of symbols
abbrev pub IsWhole : ObjectFile → SectionHeader → Type 0
IsWhole file s = s.sh_size % size_by symbol_layout file.class ≡ 0

-- so it is, and each symbol is sound
pub record SoundSymbols (file : ObjectFile) (s : SectionHeader) : Type 0 where
  pub linked : LinksToStrings file s
  pub whole : IsWhole file s
  pub symbols : IsOkAnd (symbols_of file s) (λ found. SoundSymbolTable (length file.sections) found.0 found.1)

abbrev pub HoldsSymbols : SectionHeader → Type 0
HoldsSymbols s = (s.sh_type ≡ sht_symtab) ⊎ (s.sh_type ≡ sht_dynsym)

-- whether a section holds symbols, by its type
abbrev pub holds_symbols : SectionHeader → Bool
holds_symbols s = s.sh_type == sht_symtab || s.sh_type == sht_dynsym

-- ---- symbols with their names, as lists

-- each symbol of a list has a name that can be read
abbrev pub AllNamed : List ℕ → List Symbol → Type 0
AllNamed strings symbols =
    (i : ℕ) (symbol : Symbol) → slice_get symbols i ≡ Some symbol → IsOk (string_at strings symbol.st_name)

-- the bytes of a name that can be read
abbrev pub name_of : List ℕ → Symbol → List ℕ
name_of strings symbol = result_unwrap_or (string_at strings symbol.st_name) []

-- symbols, each with its name
abbrev pub with_names : List ℕ → List Symbol → List (Symbol × List ℕ)
with_names strings symbols = map (λ symbol. (symbol, name_of strings symbol)) symbols

-- ---- faults, in the order in which they are looked for: each case says that those before it are not there

-- of a symbol: its name, and then its section
abbrev pub IsTrueOfSymbol : ℕ → List ℕ → Symbol → SymbolFault → Type 0
IsTrueOfSymbol sections strings symbol (NoName name) = (symbol.st_name ≡ name) × IsErr (string_at strings name)
IsTrueOfSymbol sections strings symbol (NoSection section) =
    IsOk (string_at strings symbol.st_name) × (symbol.st_shndx ≡ section) × (section < shn_loreserve) × (sections ≤ section)

-- the first symbol that is not sound
abbrev pub IsFirstOfTable : ℕ → Table → List ℕ → ℕ → SymbolFault → Type 0
IsFirstOfTable sections symbols strings index fault =
    IsFirstFault (symbol_at symbols) (SoundSymbol sections strings) (IsTrueOfSymbol sections strings) index fault

-- of a section: its entry size and its link, its size, the bytes of symbols and strings, and then each symbol
abbrev pub IsTrueOfSymbols : ObjectFile → SectionHeader → SymbolsFault → Type 0
IsTrueOfSymbols file s BadLink = IsErr (with_linked file s)
IsTrueOfSymbols file s LinkedToNoStrings = IsOkAnd (with_linked file s) (λ pair. pair.1.sh_type ≢ sht_strtab)
IsTrueOfSymbols file s PartOfSymbol = LinksToStrings file s × (¬ IsWhole file s)
IsTrueOfSymbols file s NoSymbols = LinksToStrings file s × IsWhole file s × IsErr (symbols_of file s)
IsTrueOfSymbols file s (At index fault) =
    LinksToStrings file s × IsWhole file s
    × IsOkAnd (symbols_of file s) (λ found. IsFirstOfTable (length file.sections) found.0 found.1 index fault)
