use Rattle.std.proofs.Common.{None, Ok, ◌≡◌, rules}
use Rattle.nugwier_report.specs.Said.{whole}
use Rattle.nugwier_report.specs.declared.problem.Fault.TheVariants.{Missing}
use Rattle.nugwier_report.specs.declared.problem.Part.TheVariants.{Symbols}
use Rattle.nugwier_symbols.proofs.Told.{told_wrong}
use Rattle.nugwier_symbols.proofs.addresses.tell_symbols.Goals as goal

-- there are no symbols
pub returns-in-Ok-None : goal.returns-in-Ok-None
returns-in-Ok-None g c =
    let e : c.args.symbols ≡ Ok None = search rules in
    rw e (told_wrong g.T.Tell.silent g.T.Tell.one c.args.tell.now c.problem.new.self c.problem.result c.whole.result (whole Symbols) Missing c.whole.ensures c.problem.ensures)

-- they cannot be read
pub returns-in-Err : goal.returns-in-Err
returns-in-Err g c =
    rw c.in-Err.is (told_wrong g.T.Tell.silent g.T.Tell.one c.args.tell.now c.problem-in-Err.new.self c.problem-in-Err.result c.whole-in-Err.result (whole Symbols) c.in-Err.fault c.whole-in-Err.ensures c.problem-in-Err.ensures)
