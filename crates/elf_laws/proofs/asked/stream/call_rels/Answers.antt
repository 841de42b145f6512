use Rattle.std.proofs.Common.{ap}
use Rattle.elf_records.specs.Number.{ok_map}
use Rattle.elf.specs.Answers.{rels_left}
use Rattle.elf.specs.Readers as method
use Rattle.elf_laws.proofs.Made.{was_called}
use Rattle.elf_laws.proofs.asked.stream.call_rels.Goals as goal

pub returns-in-Ok : goal.returns-in-Ok
returns-in-Ok g c =
    was_called g.E.EndianParse.little c.args.stream.now c.section_data_as_rels.follows.lender-at-none (method.SectionDataAsRels c.args.section.now) rels_left c.section_data_as_rels.result _ c.section_data_as_rels.follows.holds-at-none (ap (ok_map (λ _. tt)) c.in-Ok.is)

pub returns-in-Err : goal.returns-in-Err
returns-in-Err g c =
    was_called g.E.EndianParse.little c.args.stream.now c.section_data_as_rels.follows.lender-at-none (method.SectionDataAsRels c.args.section.now) rels_left c.section_data_as_rels.result _ c.section_data_as_rels.follows.holds-at-none (ap (ok_map (λ _. tt)) c.in-Err.is)
