-- The relocations of a section in order, each with the symbol that it names (gABI, chapter "Relocation").
use Rattle.std.specs.Prelude.{◌≡◌, ℕ, List, map, slice_get, Option, Some, None, Result, Ok, IsSome}
use Rattle.std.specs.Result.{result_ok}
use Rattle.elf_records.specs.Record.{◌>>=◌, RecordType}
use Rattle.elf_records.specs.Table.{Table}
use Rattle.elf_records.specs.declared.parse.ParseError.{ParseError}
use Rattle.elf_records.specs.declared.section.SectionHeader.{SectionHeader}
use Rattle.elf_records.specs.declared.symbol.Symbol.{Symbol}
use Rattle.elf_parts.specs.Hash.{named_symbol}
use Rattle.elf.specs.Data.{content}
use Rattle.elf.specs.ObjectFile.{ObjectFile, records_of}
use Rattle.elf_check.specs.Relocations.{linked_symbols}

-- the symbol of an index with its name, if symbols are linked and it can be read
abbrev pub symbol_in : Option (Table × List ℕ) → ℕ → Option (Symbol × List ℕ)
symbol_in None i = None
symbol_in (Some symbols) i = result_ok (named_symbol symbols.0 symbols.1 i)

-- relocations, each with the symbol that it names
abbrev pub with_symbols :
    {R : Type 0} → (R → ℕ) → Option (Table × List ℕ) → List R → List (R × Option (Symbol × List ℕ))
with_symbols symbol_of symbols relocations = map (λ r. (r, symbol_in symbols (symbol_of r))) relocations

-- those of a section
abbrev pub relocations :
    {R : Type 0} → RecordType R → (R → ℕ) → ObjectFile → SectionHeader →
    Result (List (R × Option (Symbol × List ℕ))) ParseError
relocations reads symbol_of file s =
    content file s >>= λ bytes. linked_symbols file s >>= λ symbols.
    Ok (with_symbols symbol_of symbols (records_of reads file bytes))

-- each has its symbol
abbrev pub AllHaveSymbols : {R : Type 0} → List (R × Option (Symbol × List ℕ)) → Type 0
AllHaveSymbols {R} list =
    (i : ℕ) (found : R × Option (Symbol × List ℕ)) → slice_get list i ≡ Some found → IsSome found.1
