use Rattle.std.proofs.Common.{not, rules, tests}
use Rattle.std.proofs.lemmas.Iterator.{items_from_collect}
use Rattle.std.proofs.lemmas.Iterator.Consumers.{YieldsList-from_first}
use Rattle.std.proofs.lemmas.Iterator.Search.{YieldsList-from_take_while}
use Rattle.elf_abi.specs.Values.{dt_null}
use Rattle.elf_records.specs.Dynamic.{dyn_reads, has_tag}
use Rattle.elf_records.specs.Table.{items_left, table_items, table_view}
use Rattle.elf_linking.proofs.needed.entries_in.Goals as goal

pub returns : goal.returns
returns g c =
    let left = items_left dyn_reads in
    let all = table_items dyn_reads (table_view c.args.table.now) in
    items_from_collect _ c.collect.ensures.ran
    (YieldsList-from_take_while _ (λ entry. not (has_tag dt_null entry)) (YieldsList-from_first (λ x. x) left all cc)
    c.take_while.ensures.closure c.take_while.ensures.done (λ x b q k. search (rules, tests)))
