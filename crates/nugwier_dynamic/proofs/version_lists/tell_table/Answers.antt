use Rattle.std.proofs.Common.{sym}
use Rattle.elf_dynamic.specs.dynamic_view.Entries.{entries_in}
use Rattle.elf_records.specs.Table.{table_view}
use Rattle.nugwier_dynamic.specs.VersionLists.{found_table_said, table_versions}
use Rattle.nugwier_report.proofs.Saying.{saying_nothing}
use Rattle.nugwier_report.specs.Whole.{file_of}
use Rattle.nugwier_dynamic.proofs.version_lists.tell_table.Goals as goal

-- a silent teller stays as it is
pub returns-then-is_silent : goal.returns-then-is_silent
returns-then-is_silent g c =
    let whole = file_of (g.R.Headers.file c.args.file.now) (g.R.ListedFile.bytes c.args.file.now) in
    let found = table_versions whole c.args.is_defining (entries_in (table_view c.args.entries.now)) in
    sym (saying_nothing g.T.Tell.one c.args.tell.now (found_table_said whole.size c.args.is_defining found) (c.is_silent.ensures.nothing c.if-is_silent.true))
