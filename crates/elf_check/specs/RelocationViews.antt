-- The view of the relocations of a section of a file that was checked.
use Rattle.std.specs.Prelude.{ℕ, List, drop, Option}
use Rattle.std.specs.Option.{option_map}
use Rattle.std.specs.declared.cmp.PartialEq.{Ghosts as PartialEqGhosts}
use Rattle.std.specs.declared.default.Default.{Ghosts as DefaultGhosts}
use Rattle.elf_records.specs.declared.endian.EndianParse.{Ghosts as EndianGhosts}
use Rattle.elf_records.specs.Record.{RecordType}
use Rattle.elf_records.specs.Table.{table_items, table_view}
use Rattle.elf_records.specs.declared.symbol.Symbol.{Symbol}
use Rattle.elf_check.specs.RelocationLists.{with_symbols}
use Rattle.elf_check.specs.Whole.{whole_symbols}
use Rattle.elf_check.specs.declared.whole.relocations.WholeRelocations.{WholeRelocations}

module _ {E P : Type 0} {order : EndianGhosts E} {default : DefaultGhosts E} {equal : PartialEqGhosts E} where
  -- the relocations that an iterator has left to yield, each with the symbol that it names
  abbrev pub relocations_left :
      RecordType P → (P → ℕ) → WholeRelocations E P order default equal → List (P × Option (Symbol × List ℕ))
  relocations_left reads symbol_of s =
      with_symbols symbol_of (option_map whole_symbols s.symbols) (drop s.next (table_items reads (table_view s.table)))
