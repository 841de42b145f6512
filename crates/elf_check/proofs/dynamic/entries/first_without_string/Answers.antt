use Rattle.std.proofs.Common.{not, rules, tests}
use Rattle.std.proofs.lemmas.Iterator.Consumers.{YieldsList-from_first}
use Rattle.std.proofs.lemmas.Iterator.Search.{YieldsList-from_take_while, position_from_yields_List}
use Rattle.elf_abi.specs.Values.{dt_null}
use Rattle.elf_records.specs.Dynamic.{dyn_reads, has_tag}
use Rattle.elf_records.specs.Table.{items_left, table_items, table_view}
use Rattle.elf_check.specs.Dynamic.{has_its_string}
use Rattle.elf_check.proofs.dynamic.entries.first_without_string.Goals as goal

pub returns : goal.returns
returns g c =
    let left = items_left dyn_reads in
    let all = table_items dyn_reads (table_view c.args.table.now) in
    position_from_yields_List (λ entry. not (has_its_string c.args.strings.now entry)) _ _ c.position.result c.position.ensures.ran
    (YieldsList-from_take_while _ (λ entry. not (has_tag dt_null entry)) (YieldsList-from_first (λ x. x) left all cc)
    c.take_while.ensures.closure c.take_while.ensures.done (λ x b q k. search (rules, tests))) (λ x b q k. search (rules, tests))
