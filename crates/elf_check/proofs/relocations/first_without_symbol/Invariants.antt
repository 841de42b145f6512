use Rattle.std.proofs.Common.{◌<◌}
use Rattle.elf_records.specs.Table.{table_get, table_view}
use Rattle.elf_check.specs.Members.{SoundBelow}
use Rattle.elf_check.proofs.relocations.first_without_symbol.Given as goal

-- the relocations so far name a symbol
abbrev pub invariant-loop-index : goal.invariant-loop-index
invariant-loop-index g l =
    SoundBelow (table_get g.P.ParseAt.reads (table_view l.table)) (λ r. g.P.Relocation.symbol_of r < l.symbols) l.index
