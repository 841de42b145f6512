-- The symbol at an address or before it.
use Rattle.std.specs.Prelude.{◌≡◌, ◌⊎◌, ℕ, ◌<◌, ◌≤◌, ◌&&◌, nat_le, Bool, IsTrue, Option, Some, None, Ok}
use Rattle.elf_records.specs.Symbol.{symbol_reads}
use Rattle.elf_records.specs.Table.{Table, table_get, table_len}
use Rattle.elf_records.specs.declared.symbol.Symbol.{Symbol}
use Rattle.elf_tools.specs.Addresses.{has_address}
use Rattle.elf_c.specs.Find.{found_shown}
use Rattle.elf_c.specs.declared.find.NugwierFound.{NugwierFound}

-- the symbol has an address, which is this one or one before it
abbrev pub starts_before : ℕ → Symbol → Bool
starts_before address s = has_address s && nat_le s.st_value address

-- of each symbol of the first n that starts at the address or before it, by its index
abbrev pub EachBefore : Table → ℕ → ℕ → (ℕ → Symbol → Type 0) → Type 0
EachBefore symbols n address P =
    (j : ℕ) (s : Symbol) → j < n → table_get symbol_reads symbols j ≡ Ok s → IsTrue (starts_before address s) → P j s

-- symbol j does not come after symbol i in the order of addresses; of two with one address the later one of the table
-- comes last
abbrev pub IsNotAfter : ℕ → Symbol → ℕ → Symbol → Type 0
IsNotAfter i last j s = (s.st_value < last.st_value) ⊎ ((s.st_value ≡ last.st_value) × (j ≤ i))

-- the last of the first n symbols, in the order of addresses, that starts at the address or before it, or none does
abbrev pub IsLastBefore : Table → ℕ → ℕ → Option (ℕ × Symbol) → Type 0
IsLastBefore symbols n address None = EachBefore symbols n address (λ j s. ⊥)
IsLastBefore symbols n address (Some found) =
    (table_get symbol_reads symbols found.0 ≡ Ok found.1) × IsTrue (starts_before address found.1)
    × EachBefore symbols n address (IsNotAfter found.0 found.1)

-- the same of all symbols of a table, as C sees it
abbrev pub IsFoundBefore : Table → ℕ → NugwierFound → Type 0
IsFoundBefore symbols address found =
    (last : Option (ℕ × Symbol)) × IsLastBefore symbols (table_len symbol_reads symbols) address last
    × (found ≡ found_shown last)
