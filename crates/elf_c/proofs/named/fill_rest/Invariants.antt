use Rattle.std.proofs.Common.{length, ◌-◌, ◌≤◌}
use Rattle.elf_parts.specs.Hash.{named_symbol}
use Rattle.elf_records.specs.StringTable.{strings_view}
use Rattle.elf_c.specs.Filled.{AreRead}
use Rattle.elf_c.specs.Named.{IsNamed}
use Rattle.elf_c.specs.Tables.{table_of_c}
use Rattle.elf_c.proofs.named.fill_rest.Given as goal

-- the places so far hold the symbols of the table
abbrev pub invariant-loop-count : goal.invariant-loop-count
invariant-loop-count l = record {
  from : l.start ≤ l.count;
  read : AreRead IsNamed (named_symbol (table_of_c l.table) (strings_view l.strings)) l.first l.count l.initial.places l.places;
}

abbrev pub decreases-loop-count : goal.decreases-loop-count
decreases-loop-count l = length l.initial.places - l.count
