use Rattle.std.proofs.Common.{◌<◌, arith, rules}
use Rattle.elf_records.specs.Table.{table_get, table_view}
use Rattle.elf_check.specs.Relocations.{NamesNone}
use Rattle.elf_check.proofs.Tables.{all_read, below_one_more, first_here, records_read}
use Rattle.elf_check.proofs.relocations.first_without_symbol.Goals as goal

pub loop-index-preserved : goal.loop-index-preserved
loop-index-preserved g c =
    below_one_more (table_get g.P.ParseAt.reads (table_view c.args.table.now)) (λ r. g.P.Relocation.symbol_of r < c.args.symbols) c.loop-index.index c.record_below-relocation.result
    c.loop-index.invariant c.record_below-relocation.ensures (omega arith)

pub returns-then-symbol-symbols : goal.returns-then-symbol-symbols
returns-then-symbol-symbols g c =
    first_here (table_get g.P.ParseAt.reads (table_view c.args.table.now)) (λ r. g.P.Relocation.symbol_of r < c.args.symbols) (NamesNone g.P.ParseAt.reads g.P.Relocation.symbol_of c.args.symbols) c.loop-index.index c.record_below-relocation.result c.symbol-symbol.result
    c.loop-index.invariant c.record_below-relocation.ensures (search rules, omega arith)

pub returns : goal.returns
returns g c =
    all_read (table_get g.P.ParseAt.reads (table_view c.args.table.now)) (λ r. g.P.Relocation.symbol_of r < c.args.symbols) _ c.loop-index.index
    c.loop-index.invariant (records_read g.P.ParseAt.reads g.met.P.PlainRecord.wherever (table_view c.args.table.now) c.len-index-end.ensures.short) (omega arith)
