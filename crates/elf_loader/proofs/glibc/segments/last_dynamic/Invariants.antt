use Rattle.std.proofs.Common.{◌≡◌, filter}
use Rattle.std.specs.List.{last_or}
use Rattle.elf_loader.specs.Glibc.{is_full_dynamic, last_of}
use Rattle.elf_records.specs.Segment.{program_header_reads}
use Rattle.elf_records.specs.Table.{items_left, table_items, table_view}
use Rattle.elf_loader.proofs.glibc.segments.last_dynamic.Given as goal

-- the last of the segments that are left or, if none of these is one, the last so far is that of all
abbrev pub invariant-loop-phdr : goal.invariant-loop-phdr
invariant-loop-phdr l =
    goal.iterator-loop-phdr.can_next l.phdr-iterator × goal.iterator-loop-phdr.is_finite l.phdr-iterator ×
    (last_or l.last (filter is_full_dynamic (items_left program_header_reads l.phdr-iterator))
    ≡ last_of is_full_dynamic (table_items program_header_reads (table_view l.table)))
