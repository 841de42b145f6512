use Rattle.std.proofs.Common.{None, Ok}
use Rattle.elf.specs.Answers.{symbol_table}
use Rattle.elf.specs.ObjectFile.{err_map}
use Rattle.nugwier_report.specs.declared.problem.Fault.TheVariants.{Read}
use Rattle.nugwier_report.specs.declared.problem.Part.TheVariants.{Symbols}
use Rattle.nugwier_symbols.proofs.Ordered.{in_table_order}
use Rattle.nugwier_symbols.proofs.symbols.tell_symbols.Goals as goal
use Rattle.nugwier_report.specs.Whole.{file_of}

pub returns : goal.returns
returns g c =
    let file = file_of (g.R.Headers.file c.args.file.now) (g.R.ListedFile.bytes c.args.file.now) in
    in_table_order g.T.Tell.silent g.T.Tell.one Symbols (Ok None) (err_map Read (symbol_table file)) c.args.tell.now c.tell_table.new.tell c.tell_table.result
    (rw c.in_ok-found.ensures at c.tell_table.ensures.told) c.tell_table.ensures.silent
