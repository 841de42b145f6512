use Rattle.std.proofs.Common.{sym, ◌∙◌, rules, tests}
use Rattle.std.proofs.lemmas.Iterator.Adapters.{option_map_id}
use Rattle.std.proofs.lemmas.Iterator.Consumers.{YieldsList-from_first}
use Rattle.std.proofs.lemmas.Iterator.Search.{find_from_yields_List}
use Rattle.elf_records.specs.Table.{items_left, table_items, table_view}
use Rattle.elf_libraries.specs.Cache.{has_hwcaps, section_reads}
use Rattle.elf_libraries.proofs.cache.hwcaps_section.Goals as goal

pub returns : goal.returns
returns c =
    let all = table_items section_reads (table_view c.args.sections.now) in
    sym (option_map_id c.find.result) ∙ find_from_yields_List {s = c.iter.result} {all = all} has_hwcaps c.find.new.self _ c.find.result c.find.ensures.ran
    (YieldsList-from_first (λ x. x) (items_left section_reads) {s = c.iter.result} all c.iter.ensures.items) (λ x b q k. search (rules, tests))
