use Rattle.nugwier_report.specs.declared.problem.Part.TheVariants.{DynamicSymbols}
use Rattle.nugwier_symbols.proofs.Ordered.{in_table_order}
use Rattle.nugwier_symbols.proofs.symbols.tell_dynamic_symbols.Goals as goal
use Rattle.nugwier_report.specs.Linked.{linked_symbols, linked_versions}
use Rattle.nugwier_report.specs.Whole.{file_of}

pub returns : goal.returns
returns g c =
    let file = file_of (g.R.Headers.file c.args.file.now) (g.R.ListedFile.bytes c.args.file.now) in
    in_table_order g.T.Tell.silent g.T.Tell.one DynamicSymbols (linked_versions file) (linked_symbols file) c.args.tell.now c.tell_linked.new.tell c.tell_linked.result
    c.tell_linked.ensures.told c.tell_linked.ensures.silent
