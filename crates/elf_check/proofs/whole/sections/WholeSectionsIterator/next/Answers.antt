use Rattle.std.proofs.Common.{sym, ◌∙◌}
use Rattle.elf_check.specs.Whole.{section_file, section_header, whole_view}
use Rattle.elf_check.proofs.NamedSections.{next_one, none_left}
use Rattle.elf_check.proofs.whole.sections.WholeSectionsIterator.next.Goals as goal

pub returns-in-Some-clause-steps : goal.returns-in-Some-clause-steps
returns-in-Some-clause-steps g c =
    let s = c.args.self.now in
    let little = g.E.EndianParse.little in
    next_one (whole_view little s.whole.now) (section_file little c.in-Some.section) s.next (section_header c.in-Some.section) c.in-Some.ensures.same
    (c.sections_are_listed.ensures s.next ∙ sym c.in-Some.ensures.header)

pub returns-in-None-clause-steps : goal.returns-in-None-clause-steps
returns-in-None-clause-steps g c =
    let s = c.args.self.now in
    none_left (whole_view g.E.EndianParse.little s.whole.now) s.next (c.sections_are_listed.ensures s.next ∙ sym c.in-None.ensures.header)
