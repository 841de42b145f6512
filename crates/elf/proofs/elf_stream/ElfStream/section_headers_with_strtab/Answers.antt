use Rattle.std.proofs.Common.{refl}
use Rattle.elf.specs.Names.{listed_view}
use Rattle.elf.specs.Readers.{SectionHeadersWithStrtab}
use Rattle.elf.proofs.stream.Methods.{read, refused}
use Rattle.elf.proofs.elf_stream.ElfStream.section_headers_with_strtab.Goals as goal

pub returns-in_err-load_names : goal.returns-in_err-load_names
returns-in_err-load_names g c =
    let leaves = refused g.E.EndianParse.little c.args.self.now c.load_names.new.self SectionHeadersWithStrtab listed_view c.from_residual.ensures.1 c.in_err-load_names.ensures in
    ((refl, (λ _. tt), leaves), record { leaves = tt })

pub returns : goal.returns
returns g c =
    let leaves = read g.E.EndianParse.little c.args.self.now c.load_names.new.self SectionHeadersWithStrtab listed_view _ refl c.in_ok-load_names.ensures c.is_part_of_file.ensures c.headers_and_names.ensures.value c.headers_and_names.ensures.plain c.given.ensures in
    ((refl, (λ _. tt), leaves), record { leaves = tt })
