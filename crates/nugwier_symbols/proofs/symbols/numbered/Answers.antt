use Rattle.std.proofs.lemmas.Iterator.{items_from_collect}
use Rattle.std.proofs.lemmas.Iterator.Consumers.{YieldsList-from_enumerate, YieldsList-from_first}
use Rattle.elf_records.specs.Symbol.{symbol_reads}
use Rattle.elf_records.specs.Table.{items_left, table_items, table_view}
use Rattle.nugwier_symbols.proofs.symbols.numbered.Goals as goal

pub returns : goal.returns
returns g c =
    let left = items_left symbol_reads in
    let all = table_items symbol_reads (table_view c.args.table.now) in
    items_from_collect _ c.collect.ensures.ran
    (YieldsList-from_enumerate {ys = all} (YieldsList-from_first (λ x. x) left all cc) cc)
