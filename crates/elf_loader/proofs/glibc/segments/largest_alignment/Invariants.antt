use Rattle.std.proofs.Common.{◌≡◌}
use Rattle.std.specs.Prelude.{fold}
use Rattle.elf_loader.specs.Glibc.{larger_alignment, largest_alignment}
use Rattle.elf_records.specs.Segment.{program_header_reads}
use Rattle.elf_records.specs.Table.{items_left, table_items, table_view}
use Rattle.elf_loader.proofs.glibc.segments.largest_alignment.Given as goal

-- the largest alignment of the segments that are left, and that so far, is that of all
abbrev pub invariant-loop-phdr : goal.invariant-loop-phdr
invariant-loop-phdr l =
    goal.iterator-loop-phdr.can_next l.phdr-iterator × goal.iterator-loop-phdr.is_finite l.phdr-iterator ×
    (fold larger_alignment l.alignment (items_left program_header_reads l.phdr-iterator)
    ≡ largest_alignment (table_items program_header_reads (table_view l.table)))
