use Rattle.std.proofs.Common.{ap}
use Rattle.std.specs.Option.{option_map}
use Rattle.elf_records.specs.Table.{table_view}
use Rattle.elf.specs.Readers as methods
use Rattle.elfshow.proofs.StreamCalls.{dropped, one_loaded}
use Rattle.elfshow.proofs.stream.load_dynamic.Goals as goal

pub returns-in-Err : goal.returns-in-Err
returns-in-Err g c =
    one_loaded g.E.EndianParse.little c.args.stream.now c.dynamic.follows.lender-at-none methods.Dynamic (option_map table_view) c.dynamic.result _ c.dynamic.follows.holds-at-none (ap dropped c.in-Err.is)
