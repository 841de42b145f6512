use Rattle.std.proofs.Common.{◌≡◌}
use Rattle.elf.specs.Parts.{loaded}
use Rattle.elf.specs.Walk.{headers_left}
use Rattle.elf_records.specs.Section.{section_header_reads}
use Rattle.elf_linking.specs.SymbolUses.{sections_uses, uses_by}
use Rattle.elf_linking.proofs.bindings.uses.add_uses.Given as goal

-- after the sections that are left the uses are those after all
abbrev pub invariant-loop-section : goal.invariant-loop-section
invariant-loop-section g l =
    let file = loaded (g.R.Headers.file l.file) (g.R.Reader.ranges l.file) in
    let left = headers_left section_header_reads l.section-iterator in
    (goal.iterator-loop-section g).can_next l.section-iterator × (goal.iterator-loop-section g).is_finite l.section-iterator ×
    (sections_uses l.machine file l.left left l.uses ≡ uses_by l.machine file l.fn.uses)
