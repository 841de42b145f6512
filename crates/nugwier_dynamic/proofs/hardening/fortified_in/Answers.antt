use Rattle.std.proofs.Common.{rules, tests}
use Rattle.std.proofs.lemmas.Iterator.Consumers.{YieldsList-from_filter, YieldsList-from_first, count_from_yields_List}
use Rattle.elf_records.specs.Symbol.{symbol_reads}
use Rattle.elf_records.specs.Table.{items_left, table_items, table_view}
use Rattle.nugwier_dynamic.specs.Hardening.{is_fortified}
use Rattle.nugwier_dynamic.proofs.hardening.fortified_in.Goals as goal

pub returns : goal.returns
returns g c =
    let all = table_items symbol_reads (table_view c.args.table.now) in
    count_from_yields_List _ c.count.result c.count.ensures.ran
    (YieldsList-from_filter _ (is_fortified c.args.strings.now)
    (YieldsList-from_first (λ x. x) (items_left symbol_reads) all cc)
    c.filter.ensures.closure (λ x b q k. search (rules, tests)))
