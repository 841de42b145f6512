use Rattle.std.proofs.Common.{rules, tests}
use Rattle.std.proofs.lemmas.Iterator.{YieldsList-from_map, items_from_collect}
use Rattle.std.proofs.lemmas.Iterator.Consumers.{YieldsList-at, YieldsList-from_enumerate, YieldsList-from_filter, YieldsList-from_first}
use Rattle.elf_records.specs.Symbol.{symbol_reads}
use Rattle.elf_records.specs.Table.{items_left, table_items, table_view}
use Rattle.elf_tools.specs.Addresses.{has_address, location}
use Rattle.elf_tools.proofs.addresses.located_symbols.Goals as goal

pub returns : goal.returns
returns g c =
    let left = items_left symbol_reads in
    let all = table_items symbol_reads (table_view c.args.symbols.now) in
    items_from_collect _ c.collect.ensures.ran
    (YieldsList-from_map _ (location c.args.machine)
    (YieldsList-at c.map.ensures.source (YieldsList-from_filter _ (λ one. has_address one.1)
    (YieldsList-from_enumerate {ys = all} (YieldsList-from_first (λ x. x) left all cc) cc)
    c.filter.ensures.closure (λ x b q k. search (rules, tests))))
    c.map.ensures.closure (λ x r q k. search rules))
