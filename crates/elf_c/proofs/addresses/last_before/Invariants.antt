use Rattle.std.proofs.Common.{◌≡◌}
use Rattle.elf_records.specs.Table.{table_view}
use Rattle.elf_c.specs.Addresses.{IsLastBefore}
use Rattle.elf_c.proofs.Nearest.{greatest_of}
use Rattle.elf_c.proofs.addresses.last_before.Given as goal

-- the last one of the symbols so far
abbrev pub invariant-loop-index : goal.invariant-loop-index
invariant-loop-index l =
    IsLastBefore (table_view l.symbols) l.index l.address l.last × (l.greatest ≡ greatest_of l.last)
