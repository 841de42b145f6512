use Rattle.std.proofs.Common.{refl}
use Rattle.std.specs.Option.{option_map}
use Rattle.elf_records.specs.Table.{table_view}
use Rattle.elf.specs.Readers.{Dynamic}
use Rattle.elf.proofs.stream.Methods.{read, refused}
use Rattle.elf.proofs.elf_stream.ElfStream.dynamic.Goals as goal

pub returns-in_err-load_dynamic : goal.returns-in_err-load_dynamic
returns-in_err-load_dynamic g c =
    let leaves = refused g.E.EndianParse.little c.args.self.now c.load_dynamic.new.self Dynamic (option_map table_view) c.from_residual.ensures.1 c.in_err-load_dynamic.ensures in
    ((refl, (λ _. tt), leaves), record { leaves = tt })

pub returns : goal.returns
returns g c =
    let leaves = read g.E.EndianParse.little c.args.self.now c.load_dynamic.new.self Dynamic (option_map table_view) _ refl c.in_ok-load_dynamic.ensures c.is_part_of_file.ensures c.dynamic.ensures.value c.dynamic.ensures.plain c.given.ensures in
    ((refl, (λ _. tt), leaves), record { leaves = tt })
