use Rattle.elf_records.specs.Table.{table_view}
use Rattle.elf_check.specs.versions.Views.{whole_versions}
use Rattle.elf_check.proofs.Looked.{indexes_read}
use Rattle.elf_check.proofs.whole.versions.WholeVersions.len.Goals as goal

pub returns-clause-readable : goal.returns-clause-readable
returns-clause-readable g c =
    indexes_read (table_view c.indexes-indexes.result) ((whole_versions c.args.self.now).indexes) c.len.result c.indexes-indexes.ensures c.len.ensures.count c.len.ensures.short
