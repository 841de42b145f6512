use Rattle.std.proofs.Common.{ap}
use Rattle.std.specs.Option.{option_map}
use Rattle.elf_records.specs.Number.{ok_map}
use Rattle.elf_records.specs.Table.{table_view}
use Rattle.elf.specs.Readers as method
use Rattle.elf_laws.proofs.Made.{was_called}
use Rattle.elf_laws.proofs.asked.stream.call_dynamic.Goals as goal

pub returns-in-Ok : goal.returns-in-Ok
returns-in-Ok g c =
    was_called g.E.EndianParse.little c.args.stream.now c.dynamic.follows.lender-at-none method.Dynamic (option_map table_view) c.dynamic.result _ c.dynamic.follows.holds-at-none (ap (ok_map (λ _. tt)) c.in-Ok.is)

pub returns-in-Err : goal.returns-in-Err
returns-in-Err g c =
    was_called g.E.EndianParse.little c.args.stream.now c.dynamic.follows.lender-at-none method.Dynamic (option_map table_view) c.dynamic.result _ c.dynamic.follows.holds-at-none (ap (ok_map (λ _. tt)) c.in-Err.is)
