use Rattle.elf_dynamic.specs.dynamic_view.Entries.{entries_in}
use Rattle.elf_records.specs.Table.{table_view}
use Rattle.nugwier_report.proofs.Viewed.{viewed_whole}
use Rattle.nugwier_report.proofs.linked.symbols_by.Goals as goal

pub returns : goal.returns
returns g c = viewed_whole _ _ _ _ _ c.symbols_with_strings.ensures c.unless_missing.ensures.found c.unless_missing.ensures.no_missing (c.is_part.ensures.symbols_with_strings (entries_in (table_view c.args.table.now)))
