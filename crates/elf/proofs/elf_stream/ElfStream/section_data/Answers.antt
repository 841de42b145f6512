use Rattle.std.proofs.Common.{refl}
use Rattle.elf_reading.specs.Leading.{data_view}
use Rattle.elf.specs.Readers.{SectionData}
use Rattle.elf.proofs.stream.Methods.{read, refused}
use Rattle.elf.proofs.elf_stream.ElfStream.section_data.Goals as goal

pub returns-in_err-load_section_data : goal.returns-in_err-load_section_data
returns-in_err-load_section_data g c =
    let leaves = refused g.E.EndianParse.little c.args.self.now c.load_section_data.new.self (SectionData c.args.shdr.now) data_view c.from_residual.ensures.1 c.in_err-load_section_data.ensures in
    ((refl, (λ _. tt), leaves), record { leaves = tt })

pub returns : goal.returns
returns g c =
    let leaves = read g.E.EndianParse.little c.args.self.now c.load_section_data.new.self (SectionData c.args.shdr.now) data_view _ refl c.in_ok-load_section_data.ensures c.is_part_of_file.ensures c.section_data.ensures.value c.section_data.ensures.plain c.given.ensures in
    ((refl, (λ _. tt), leaves), record { leaves = tt })
