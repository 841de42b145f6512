-- The greatest index so far and the indexes that are left need the places of all indexes.
use Rattle.std.proofs.Common.{◌≡◌, ◌≤◌, ◌^◌, max}
use Rattle.elf_records.specs.Table.{items_left, table_items}
use Rattle.elf_parts.specs.gnu_symver.Records.{version_index_reads}
use Rattle.elf_parts.specs.gnu_symver.Table.{place_count, versions_view}
use Rattle.elf_parts.proofs.gnu_symver.table.SymbolVersionTable.place_count.Given as goal

abbrev pub invariant-loop-index : goal.invariant-loop-index
invariant-loop-index g l =
    (goal.iterator-loop-index g).can_next l.index-iterator ×
    (goal.iterator-loop-index g).is_finite l.index-iterator ×
    (l.count ≤ 2 ^ 16) ×
    (max l.count (place_count (items_left version_index_reads l.index-iterator))
    ≡ place_count (table_items version_index_reads (versions_view l.fn.self).indexes))
