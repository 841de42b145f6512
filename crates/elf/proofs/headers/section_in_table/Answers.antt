use Rattle.std.proofs.Common.{Some}
use Rattle.elf_records.specs.Table.{table_view}
use Rattle.elf.proofs.stream.SectionAt.{section_at_refused}
use Rattle.elf.proofs.headers.section_in_table.Goals as goal

pub returns-clause-plain : goal.returns-clause-plain
returns-clause-plain g c =
    section_at_refused (Some (table_view c.args.table.now)) c.args.index c.get.result c.get.ensures
