use Rattle.std.proofs.Common.{ap}
use Rattle.elf_records.specs.Number.{ok_map}
use Rattle.elf.specs.Names.{listed_view}
use Rattle.elf.specs.Readers as method
use Rattle.elf_laws.proofs.Made.{was_called}
use Rattle.elf_laws.proofs.asked.stream.call_section_headers.Goals as goal

pub returns-in-Ok : goal.returns-in-Ok
returns-in-Ok g c =
    was_called g.E.EndianParse.little c.args.stream.now c.section_headers_with_strtab.follows.lender-at-none method.SectionHeadersWithStrtab listed_view c.section_headers_with_strtab.result _ c.section_headers_with_strtab.follows.holds-at-none (ap (ok_map (λ _. tt)) c.in-Ok.is)

pub returns-in-Err : goal.returns-in-Err
returns-in-Err g c =
    was_called g.E.EndianParse.little c.args.stream.now c.section_headers_with_strtab.follows.lender-at-none method.SectionHeadersWithStrtab listed_view c.section_headers_with_strtab.result _ c.section_headers_with_strtab.follows.holds-at-none (ap (ok_map (λ _. tt)) c.in-Err.is)
