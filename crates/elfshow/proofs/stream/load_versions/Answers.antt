use Rattle.std.proofs.Common.{[], ◌∷◌}
use Rattle.elf.proofs.stream.Needs.{symbols_need}
use Rattle.elf.specs.Readers as methods
use Rattle.elfshow.proofs.StreamCalls.{first_refused, then_loaded}
use Rattle.elfshow.proofs.stream.load_versions.Goals as goal

pub returns-in-Ok : goal.returns-in-Ok
returns-in-Ok g c =
    then_loaded g.E.EndianParse.little c.args.stream.now c.load_dynamic_symbols.new.stream methods.DynamicSymbolTable (methods.SymbolVersionTable ∷ []) c.load_version_table.new.stream _ c.load_dynamic_symbols.result c.load_version_table.result
    (λ bytes ok. symbols_need g.E.EndianParse.little c.args.stream.now 11 bytes ok) c.in-Ok.is c.load_dynamic_symbols.ensures c.load_version_table.ensures

pub returns-in-Err : goal.returns-in-Err
returns-in-Err g c =
    first_refused g.E.EndianParse.little c.args.stream.now c.load_dynamic_symbols.new.stream methods.DynamicSymbolTable (methods.SymbolVersionTable ∷ []) c.in-Err.error c.load_dynamic_symbols.result c.in-Err.is c.load_dynamic_symbols.ensures
