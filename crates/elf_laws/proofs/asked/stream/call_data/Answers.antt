use Rattle.std.proofs.Common.{ap}
use Rattle.elf_records.specs.Number.{ok_map}
use Rattle.elf_reading.specs.Leading.{data_view}
use Rattle.elf.specs.Readers as method
use Rattle.elf_laws.proofs.Made.{was_called}
use Rattle.elf_laws.proofs.asked.stream.call_data.Goals as goal

pub returns-in-Ok : goal.returns-in-Ok
returns-in-Ok g c =
    was_called g.E.EndianParse.little c.args.stream.now c.section_data.follows.lender-at-none (method.SectionData c.args.section.now) data_view c.section_data.result _ c.section_data.follows.holds-at-none (ap (ok_map (λ _. tt)) c.in-Ok.is)

pub returns-in-Err : goal.returns-in-Err
returns-in-Err g c =
    was_called g.E.EndianParse.little c.args.stream.now c.section_data.follows.lender-at-none (method.SectionData c.args.section.now) data_view c.section_data.result _ c.section_data.follows.holds-at-none (ap (ok_map (λ _. tt)) c.in-Err.is)
