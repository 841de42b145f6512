use Rattle.std.proofs.Common.{ap}
use Rattle.std.specs.Option.{option_map}
use Rattle.elf_records.specs.Number.{ok_map}
use Rattle.elf.specs.Answers.{symbols_view}
use Rattle.elf.specs.Readers as method
use Rattle.elf_laws.proofs.Made.{was_called}
use Rattle.elf_laws.proofs.asked.stream.call_symbols.Goals as goal

pub returns-in-Ok : goal.returns-in-Ok
returns-in-Ok g c =
    was_called g.E.EndianParse.little c.args.stream.now c.symbol_table.follows.lender-at-none method.SymbolTable (option_map symbols_view) c.symbol_table.result _ c.symbol_table.follows.holds-at-none (ap (ok_map (λ _. tt)) c.in-Ok.is)

pub returns-in-Err : goal.returns-in-Err
returns-in-Err g c =
    was_called g.E.EndianParse.little c.args.stream.now c.symbol_table.follows.lender-at-none method.SymbolTable (option_map symbols_view) c.symbol_table.result _ c.symbol_table.follows.holds-at-none (ap (ok_map (λ _. tt)) c.in-Err.is)
