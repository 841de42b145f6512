-- A symbol that is read with its name.
use Rattle.std.proofs.Common.{◌≡◌, ℕ, ◌+◌, ◌<◌, List, Result, Ok, Err, length, slice_set, sym, refl}
use Rattle.elf_parts.specs.Hash.{named_symbol}
use Rattle.elf_records.specs.Number.{ok_map}
use Rattle.elf_records.specs.StringTable.{string_at}
use Rattle.elf_records.specs.Symbol.{symbol_reads}
use Rattle.elf_records.specs.Table.{Table, table_get}
use Rattle.elf_records.specs.declared.parse.ParseError.{ParseError}
use Rattle.elf_records.specs.declared.symbol.Symbol.{Symbol}
use Rattle.elf_c.specs.Filled.{AreRead}
use Rattle.elf_c.specs.Named.{IsNamed, named_shown, named_view}
use Rattle.elf_c.specs.declared.named.NugwierNamedSymbol.{NugwierNamedSymbol}
use Rattle.elf_c.proofs.Filling.{one_read}

pub name_read : (t : Table) (strings : List ℕ) (i : ℕ) (s : Symbol) (name : List ℕ) → table_get symbol_reads t i ≡ Ok s →
    Ok name ≡ string_at strings s.st_name → named_symbol t strings i ≡ Ok (s, name)
unfolding named_symbol
name_read t strings i s name read text = rw (read, sym text) refl

-- what a place shows is read
named_read : (r : Result (Symbol × List ℕ) ParseError) (place : NugwierNamedSymbol) →
    Ok (named_view place) ≡ ok_map named_shown r →
    (found : Symbol × List ℕ) × (r ≡ Ok found) × IsNamed found place
named_read (Ok found) place e = (found, refl, cc e)
named_read (Err d) place e = absurd (cc e)

-- one more symbol
pub named_more : (read : ℕ → Result (Symbol × List ℕ) ParseError) (first n : ℕ) (old xs : List NugwierNamedSymbol)
    (place : NugwierNamedSymbol) → n < length xs → AreRead IsNamed read first n old xs →
    Ok (named_view place) ≡ ok_map named_shown (read (first + n)) →
    AreRead IsNamed read first (n + 1) old (slice_set xs n place)
named_more read first n old xs place within kept shown =
    let found = named_read (read (first + n)) place shown in
    one_read IsNamed read first n old xs found.0 place within kept found.1 found.2
