use Rattle.std.proofs.Common.{rules, tests}
use Rattle.std.proofs.lemmas.Iterator.Consumers.{YieldsList-from_first}
use Rattle.std.proofs.lemmas.Iterator.Search.{any_from_yields_List}
use Rattle.elf_loader.specs.Glibc.{is_empty_dynamic}
use Rattle.elf_records.specs.Segment.{program_header_reads}
use Rattle.elf_records.specs.Table.{items_left, table_items, table_view}
use Rattle.elf_loader.proofs.glibc.segments.has_empty_dynamic.Goals as goal

pub returns : goal.returns
returns c =
    let all = table_items program_header_reads (table_view c.args.table.now) in
    any_from_yields_List is_empty_dynamic _ _ c.any.result c.any.ensures.ran
    (YieldsList-from_first (λ x. x) (items_left program_header_reads) all c.iter.ensures.items) (λ x b q k. search (rules, tests))
