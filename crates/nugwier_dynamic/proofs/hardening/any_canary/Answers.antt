use Rattle.std.proofs.Common.{rules, tests}
use Rattle.std.proofs.lemmas.Iterator.Consumers.{YieldsList-from_first}
use Rattle.std.proofs.lemmas.Iterator.Search.{any_from_yields_List}
use Rattle.elf_records.specs.Symbol.{symbol_reads}
use Rattle.elf_records.specs.Table.{items_left, table_items, table_view}
use Rattle.nugwier_dynamic.specs.Hardening.{is_canary}
use Rattle.nugwier_dynamic.proofs.hardening.any_canary.Goals as goal

pub returns : goal.returns
returns g c =
    let all = table_items symbol_reads (table_view c.args.table.now) in
    any_from_yields_List (is_canary c.args.strings.now) _ _ c.any.result c.any.ensures.ran
    (YieldsList-from_first (λ x. x) (items_left symbol_reads) all c.iter.ensures.items) (λ x b q k. search (rules, tests))
