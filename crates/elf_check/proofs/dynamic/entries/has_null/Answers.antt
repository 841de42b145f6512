use Rattle.std.proofs.Common.{rules, tests}
use Rattle.std.proofs.lemmas.Iterator.Consumers.{YieldsList-from_first}
use Rattle.std.proofs.lemmas.Iterator.Search.{any_from_yields_List}
use Rattle.elf_abi.specs.Values.{dt_null}
use Rattle.elf_records.specs.Dynamic.{dyn_reads, has_tag}
use Rattle.elf_records.specs.Table.{items_left, table_items, table_view}
use Rattle.elf_check.proofs.dynamic.entries.has_null.Goals as goal

pub returns : goal.returns
returns g c =
    let all = table_items dyn_reads (table_view c.args.table.now) in
    any_from_yields_List (has_tag dt_null) _ _ c.any.result c.any.ensures.ran
    (YieldsList-from_first (λ x. x) (items_left dyn_reads) all c.iter.ensures.items) (λ x b q k. search (rules, tests))
