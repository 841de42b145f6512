use Rattle.std.proofs.Common.{ap}
use Rattle.elf_records.specs.Number.{ok_map}
use Rattle.std.specs.Prelude.{option_copied}
use Rattle.elf.specs.Readers as method
use Rattle.elf_laws.proofs.Made.{was_called}
use Rattle.elf_laws.proofs.asked.stream.call_by_name.Goals as goal

pub returns-in-Ok : goal.returns-in-Ok
returns-in-Ok g c =
    was_called g.E.EndianParse.little c.args.stream.now c.section_header_by_name.follows.lender-at-none (method.SectionHeaderByName c.args.name.now) option_copied c.section_header_by_name.result _ c.section_header_by_name.follows.holds-at-none (ap (ok_map (λ _. tt)) c.in-Ok.is)

pub returns-in-Err : goal.returns-in-Err
returns-in-Err g c =
    was_called g.E.EndianParse.little c.args.stream.now c.section_header_by_name.follows.lender-at-none (method.SectionHeaderByName c.args.name.now) option_copied c.section_header_by_name.result _ c.section_header_by_name.follows.holds-at-none (ap (ok_map (λ _. tt)) c.in-Err.is)
