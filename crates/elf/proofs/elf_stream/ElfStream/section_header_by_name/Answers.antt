use Rattle.std.proofs.Common.{refl}
use Rattle.std.specs.Prelude.{option_copied}
use Rattle.elf.specs.Readers.{SectionHeaderByName}
use Rattle.elf.proofs.stream.Methods.{read, refused}
use Rattle.elf.proofs.elf_stream.ElfStream.section_header_by_name.Goals as goal

pub returns-in_err-load_names : goal.returns-in_err-load_names
returns-in_err-load_names g c =
    let leaves = refused g.E.EndianParse.little c.args.self.now c.load_names.new.self (SectionHeaderByName c.args.name.now) option_copied c.from_residual.ensures.1 c.in_err-load_names.ensures in
    ((refl, (λ _. tt), leaves), tt)

pub returns : goal.returns
returns g c =
    let leaves = read g.E.EndianParse.little c.args.self.now c.load_names.new.self (SectionHeaderByName c.args.name.now) option_copied _ refl c.in_ok-load_names.ensures c.is_part_of_file.ensures c.named_header.ensures.value c.named_header.ensures.plain c.given.ensures in
    ((refl, (λ _. tt), leaves), tt)
