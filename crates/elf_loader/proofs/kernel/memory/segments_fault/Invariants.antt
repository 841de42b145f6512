use Rattle.std.proofs.Common.{◌≡◌}
use Rattle.elf_records.specs.Segment.{program_header_reads}
use Rattle.elf_records.specs.Table.{items_left}
use Rattle.elf_loader.specs.kernel.Memory.{image_view, segments_fault}
use Rattle.elf_loader.proofs.kernel.memory.segments_fault.Given as goal

-- no segment so far has a fault
abbrev pub invariant-loop-segment : goal.invariant-loop-segment
invariant-loop-segment l =
    goal.iterator-loop-segment.can_next l.segment-iterator ×
    goal.iterator-loop-segment.is_finite l.segment-iterator ×
    (segments_fault l.platform l.image.size l.origin (items_left program_header_reads l.segment-iterator)
    ≡ segments_fault l.platform l.image.size l.origin (image_view l.image).segments)
