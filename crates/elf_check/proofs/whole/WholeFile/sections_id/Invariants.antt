use Rattle.std.proofs.Common.{◌≡◌, map}
use Rattle.elf.specs.ElfBytes.{view}
use Rattle.elf.specs.ObjectFile.{object_file}
use Rattle.elf_check.specs.BuildId.{first_some, section_id, sections_id}
use Rattle.elf_check.specs.SectionViews.{sections_left}
use Rattle.elf_check.proofs.whole.WholeFile.sections_id.Given as goal

-- no section so far has a build id
abbrev pub invariant-loop-section : goal.invariant-loop-section
invariant-loop-section g l =
    let whole = object_file g.E.EndianParse.little (view l.self.file.now) in
    let left = sections_left g.E.EndianParse.little l.section-iterator in
    (goal.iterator-loop-section g).can_next l.section-iterator × (goal.iterator-loop-section g).is_finite l.section-iterator ×
    (first_some (map (λ s. section_id s.0 s.1) left) ≡ sections_id whole)
