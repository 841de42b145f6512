-- Symbols with their names, in the places of C.
use Rattle.std.specs.Prelude.{◌≡◌, List, ℕ}
use Rattle.elf_records.specs.declared.symbol.Symbol.{Symbol}
use Rattle.elf_c.specs.Records.{symbol_shown}
use Rattle.elf_c.specs.declared.named.NugwierNamedSymbol.{NugwierNamedSymbol}
use Rattle.elf_c.specs.declared.records.NugwierSymbol.{NugwierSymbol}

-- a symbol and its name as C sees them
abbrev pub named_shown : Symbol × List ℕ → NugwierSymbol × List ℕ
named_shown found = (symbol_shown found.0, found.1)

abbrev pub named_view : NugwierNamedSymbol → NugwierSymbol × List ℕ
named_view place = (place.symbol, place.name.now)

-- a place holds a symbol and its name
abbrev pub IsNamed : Symbol × List ℕ → NugwierNamedSymbol → Type 0
IsNamed found place = named_view place ≡ named_shown found
