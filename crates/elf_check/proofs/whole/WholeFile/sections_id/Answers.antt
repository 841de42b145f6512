use Rattle.std.proofs.Common.{List, ap, map, ◌∙◌}
use Rattle.elf.specs.ElfBytes.{view}
use Rattle.elf.specs.ObjectFile.{ObjectFile, object_file}
use Rattle.elf_records.specs.declared.section.SectionHeader.{SectionHeader}
use Rattle.elf_check.specs.BuildId.{first_some, section_id}
use Rattle.elf_check.specs.SectionViews.{sections_left}
use Rattle.elf_check.proofs.BuildIds.{beside_file}
use Rattle.elf_check.proofs.whole.WholeFile.sections_id.Goals as goal

pub loop-section-init : goal.loop-section-init
loop-section-init g c =
    let whole = object_file g.E.EndianParse.little (view c.args.self.now.file.now) in
    let ids : List (ObjectFile × SectionHeader) → _ = λ xs. first_some (map (λ (s : ObjectFile × SectionHeader). section_id s.0 s.1) xs) in
    (tt, tt, ap (λ it. ids (sections_left g.E.EndianParse.little it)) c.into_iter-section-iterator.ensures.into_iter_gives ∙ ap ids c.sections-section-items.ensures ∙ beside_file whole whole.sections)
