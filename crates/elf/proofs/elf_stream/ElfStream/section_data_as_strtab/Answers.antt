use Rattle.std.proofs.Common.{refl}
use Rattle.elf_records.specs.StringTable.{strings_view}
use Rattle.elf.specs.Readers.{SectionDataAsStrtab}
use Rattle.elf.proofs.stream.Methods.{read, refused}
use Rattle.elf.proofs.elf_stream.ElfStream.section_data_as_strtab.Goals as goal

pub returns-in_err-load_typed : goal.returns-in_err-load_typed
returns-in_err-load_typed g c =
    let leaves = refused g.E.EndianParse.little c.args.self.now c.load_typed.new.self (SectionDataAsStrtab c.args.shdr.now) strings_view c.from_residual.ensures.1 c.in_err-load_typed.ensures in
    ((refl, (λ _. tt), leaves), record { leaves = tt })

pub returns : goal.returns
returns g c =
    let leaves = read g.E.EndianParse.little c.args.self.now c.load_typed.new.self (SectionDataAsStrtab c.args.shdr.now) strings_view _ refl c.in_ok-load_typed.ensures c.is_part_of_file.ensures c.section_data_as_strtab.ensures.value c.section_data_as_strtab.ensures.plain c.given.ensures in
    ((refl, (λ _. tt), leaves), record { leaves = tt })
