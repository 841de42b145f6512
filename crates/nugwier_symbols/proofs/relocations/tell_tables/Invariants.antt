use Rattle.std.proofs.Common.{◌≡◌, List, drop}
use Rattle.std.specs.List.{flat_map}
use Rattle.elf_dynamic.specs.dynamic_view.Entries.{entries_in}
use Rattle.elf_records.specs.Table.{table_view}
use Rattle.nugwier_symbols.specs.Relocations.{placed_said, table_relocations}
use Rattle.nugwier_symbols.specs.inner.Relocations.{around_view}
use Rattle.nugwier_report.specs.Whole.{file_of}
use Rattle.nugwier_report.specs.Said.{saying}
use Rattle.nugwier_report.specs.declared.problem.RelocationTable.{RelocationTable}
use Rattle.nugwier_symbols.proofs.relocations.tell_tables.Given as goal

-- what was said so far, and then what is said of the tables that are left, is the whole
abbrev pub invariant-loop-table : goal.invariant-loop-table
invariant-loop-table g l =
    let whole = file_of (g.R.Headers.file l.file) (g.R.ListedFile.bytes l.file) in
    let around = around_view g.V.SymbolVersions.versions l.around in
    let said = λ (tables : List RelocationTable). flat_map (placed_said around) (flat_map (table_relocations whole (entries_in (table_view l.entries))) tables) in
    saying g.T.Tell.one l.tell (said (drop l.table-index l.all)) ≡ saying g.T.Tell.one l.initial.tell (said l.all)
