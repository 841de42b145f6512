use Rattle.std.proofs.Common.{sym, ◌∙◌, rules, tests}
use Rattle.std.proofs.lemmas.Iterator.Adapters.{option_map_id}
use Rattle.std.proofs.lemmas.Iterator.Consumers.{YieldsList-from_first}
use Rattle.std.proofs.lemmas.Iterator.Search.{find_from_yields_List}
use Rattle.elf_loader.specs.Glibc.{is_load}
use Rattle.elf_records.specs.Segment.{program_header_reads}
use Rattle.elf_records.specs.Table.{items_left, table_items, table_view}
use Rattle.elf_loader.proofs.glibc.segments.first_load.Goals as goal

pub returns : goal.returns
returns c =
    let all = table_items program_header_reads (table_view c.args.table.now) in
    let yields = YieldsList-from_first (λ x. x) (items_left program_header_reads) {s = c.iter.result} all c.iter.ensures.items in
    sym (option_map_id c.find.result) ∙ find_from_yields_List is_load c.find.new.self _ c.find.result c.find.ensures.ran yields (λ x b q k. search (rules, tests))
