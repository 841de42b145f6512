use Rattle.std.proofs.Common.{◌≡◌, ◌++◌, []}
use Rattle.elf_records.specs.Segment.{program_header_reads}
use Rattle.elf.specs.Walk.{headers_left}
use Rattle.elf_tools.specs.LoadPlan.{mappings}
use Rattle.elf_tools.proofs.load_plan.mappings.Given as goal

-- with the mappings of the segments that are left, those so far are all
abbrev pub invariant-loop-segment : goal.invariant-loop-segment
invariant-loop-segment g l =
    let segments = (g.R.Headers.file l.file).segments in
    let left = headers_left program_header_reads l.segment-iterator in
    (goal.iterator-loop-segment g).can_next l.segment-iterator × (goal.iterator-loop-segment g).is_finite l.segment-iterator ×
    (l.all.items ++ mappings left ≡ mappings segments) × (segments ≡ [] → left ≡ [])
