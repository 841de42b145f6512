use Rattle.std.proofs.Common.{ap}
use Rattle.std.specs.Option.{option_map}
use Rattle.elf.specs.Answers.{symbols_view}
use Rattle.elf.specs.Readers as methods
use Rattle.elfshow.proofs.StreamCalls.{dropped, one_loaded}
use Rattle.elfshow.proofs.stream.load_symbols.Goals as goal

pub returns-in-Err : goal.returns-in-Err
returns-in-Err g c =
    one_loaded g.E.EndianParse.little c.args.stream.now c.symbol_table.follows.lender-at-none methods.SymbolTable (option_map symbols_view) c.symbol_table.result _ c.symbol_table.follows.holds-at-none (ap dropped c.in-Err.is)
