use Rattle.std.proofs.Common.{arith}
use Rattle.elf_parts.specs.Hash.{symbol_at}
use Rattle.elf_records.specs.Table.{table_view}
use Rattle.elf_check.specs.Symbols.{SoundSymbol}
use Rattle.elf_check.proofs.Tables.{all_read, below_one_more, symbols_read}
use Rattle.elf_check.proofs.symbols.first_bad_symbol.Goals as goal

pub loop-index-preserved : goal.loop-index-preserved
loop-index-preserved g c =
    let table = table_view c.args.symbols.now in
    below_one_more (symbol_at table) (SoundSymbol c.args.sections c.args.strings.now) c.loop-index.index c.record_below-symbol.result
    c.loop-index.invariant c.record_below-symbol.ensures c.in-None.ensures

pub returns : goal.returns
returns g c =
    let table = table_view c.args.symbols.now in
    all_read (symbol_at table) (SoundSymbol c.args.sections c.args.strings.now) _ c.loop-index.index
    c.loop-index.invariant (symbols_read table c.len-index-end.ensures.short) (omega arith)
