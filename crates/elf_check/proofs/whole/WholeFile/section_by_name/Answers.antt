use Rattle.std.proofs.Common.{Ok, Option, ap, sym, ◌∙◌, subst}
use Rattle.std.specs.Result.{IsOk}
use Rattle.elf_records.specs.declared.section.SectionHeader.{SectionHeader}
use Rattle.elf.specs.Answers.{first_named}
use Rattle.elf.specs.ElfBytes.{view}
use Rattle.elf.specs.Names.{name_table}
use Rattle.elf.specs.ObjectFile.{object_file}
use Rattle.elf_check.proofs.NamedSections.{named_listed, ok_mapped}
use Rattle.elf_check.proofs.Tables.{ok_from_some}
use Rattle.elf_check.proofs.whole.WholeFile.section_by_name.Goals as goal

pub unwrap-requires : goal.unwrap-requires
unwrap-requires g c =
    let whole = object_file g.E.EndianParse.little (view c.args.self.now.file.now) in
    subst (λ r. IsOk r) (sym c.section_header_by_name.ensures)
    (ok_mapped (first_named whole.sections c.args.name.now) (name_table whole) c.args.self.now.sound.names)

pub new-requires-clause-sound : goal.new-requires-clause-sound
new-requires-clause-sound g c =
    let whole = object_file g.E.EndianParse.little (view c.args.self.now.file.now) in
    let s = c.in-Some.header in
    let r = named_listed whole c.args.name.now s (sym c.section_header_by_name.ensures ∙ c.unwrap.ensures ∙ ap (λ (o : Option SectionHeader). Ok o) c.in-Some.is) in
    c.args.self.now.sound.sections r.0 s (ok_from_some (whole.section_at r.0) s (sym (c.sections_are_listed.ensures r.0) ∙ r.1))
