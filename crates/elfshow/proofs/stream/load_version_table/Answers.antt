use Rattle.std.proofs.Common.{ap}
use Rattle.std.specs.Option.{option_map}
use Rattle.elf_parts.specs.gnu_symver.Table.{versions_view}
use Rattle.elf.specs.Readers as methods
use Rattle.elfshow.proofs.StreamCalls.{dropped, one_loaded}
use Rattle.elfshow.proofs.stream.load_version_table.Goals as goal

pub returns-in-Err : goal.returns-in-Err
returns-in-Err g c =
    one_loaded g.E.EndianParse.little c.args.stream.now c.symbol_version_table.follows.lender-at-none methods.SymbolVersionTable (option_map versions_view) c.symbol_version_table.result _ c.symbol_version_table.follows.holds-at-none (ap dropped c.in-Err.is)
