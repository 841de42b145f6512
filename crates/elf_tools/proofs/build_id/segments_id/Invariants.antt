use Rattle.std.proofs.Common.{◌≡◌}
use Rattle.elf_records.specs.Segment.{program_header_reads}
use Rattle.elf.specs.Parts.{loaded}
use Rattle.elf.specs.Walk.{headers_left}
use Rattle.elf_tools.specs.BuildId.{first_by, segment_id, segments_id}
use Rattle.elf_tools.proofs.build_id.segments_id.Given as goal

-- no segment so far has one
abbrev pub invariant-loop-segment : goal.invariant-loop-segment
invariant-loop-segment g l =
    let file = loaded (g.R.Headers.file l.file) (g.R.Reader.ranges l.file) in
    (goal.iterator-loop-segment g).can_next l.segment-iterator × (goal.iterator-loop-segment g).is_finite l.segment-iterator ×
    (first_by (segment_id file) (headers_left program_header_reads l.segment-iterator) ≡ segments_id file)
