use Rattle.std.proofs.Common.{◌≡◌}
use Rattle.elf_records.specs.Section.{section_header_reads}
use Rattle.elf.specs.Parts.{loaded}
use Rattle.elf.specs.Walk.{headers_left}
use Rattle.elf_tools.specs.BuildId.{first_by, section_id, sections_id}
use Rattle.elf_tools.proofs.build_id.sections_id.Given as goal

-- no section so far has one
abbrev pub invariant-loop-section : goal.invariant-loop-section
invariant-loop-section g l =
    let file = loaded (g.R.Headers.file l.file) (g.R.Reader.ranges l.file) in
    (goal.iterator-loop-section g).can_next l.section-iterator × (goal.iterator-loop-section g).is_finite l.section-iterator ×
    (first_by (section_id file) (headers_left section_header_reads l.section-iterator) ≡ sections_id file)
