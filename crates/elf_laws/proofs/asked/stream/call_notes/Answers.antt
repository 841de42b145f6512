use Rattle.std.proofs.Common.{ap}
use Rattle.elf_records.specs.Number.{ok_map}
use Rattle.elf_parts.specs.Note.{notes_left}
use Rattle.elf.specs.Readers as method
use Rattle.elf_laws.proofs.Made.{was_called}
use Rattle.elf_laws.proofs.asked.stream.call_notes.Goals as goal

pub returns-in-Ok : goal.returns-in-Ok
returns-in-Ok g c =
    was_called g.E.EndianParse.little c.args.stream.now c.section_data_as_notes.follows.lender-at-none (method.SectionDataAsNotes c.args.section.now) notes_left c.section_data_as_notes.result _ c.section_data_as_notes.follows.holds-at-none (ap (ok_map (λ _. tt)) c.in-Ok.is)

pub returns-in-Err : goal.returns-in-Err
returns-in-Err g c =
    was_called g.E.EndianParse.little c.args.stream.now c.section_data_as_notes.follows.lender-at-none (method.SectionDataAsNotes c.args.section.now) notes_left c.section_data_as_notes.result _ c.section_data_as_notes.follows.holds-at-none (ap (ok_map (λ _. tt)) c.in-Err.is)
