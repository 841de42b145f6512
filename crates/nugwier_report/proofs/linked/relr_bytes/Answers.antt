use Rattle.elf_dynamic.specs.dynamic_view.Entries.{entries_in}
use Rattle.elf_records.specs.Table.{table_view}
use Rattle.nugwier_report.proofs.Viewed.{viewed_whole}
use Rattle.nugwier_report.proofs.linked.relr_bytes.Goals as goal

pub returns : goal.returns
returns g c = viewed_whole _ _ _ _ _ c.relr_bytes.ensures.value c.unless_missing.ensures.found c.unless_missing.ensures.no_missing (c.is_part.ensures.relr_bytes (entries_in (table_view c.args.table.now)))
