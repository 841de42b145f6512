use Rattle.std.proofs.Common.{sym}
use Rattle.nugwier_report.proofs.Saying.{saying_nothing}
use Rattle.nugwier_report.specs.Said.{whole}
use Rattle.nugwier_symbols.proofs.Told.{told_wrong}
use Rattle.nugwier_symbols.proofs.symbols.tell_table.Goals as goal

-- a silent teller stays as it is
pub returns-then-is_silent-clause-silent : goal.returns-then-is_silent-clause-silent
returns-then-is_silent-clause-silent g c =
    λ is said. sym (saying_nothing g.T.Tell.one c.args.tell.now said (c.is_silent.ensures.nothing c.if-is_silent.true))

pub returns-in-Err-clause-told : goal.returns-in-Err-clause-told
returns-in-Err-clause-told g c =
    rw c.in-Err.is (told_wrong g.T.Tell.silent g.T.Tell.one c.args.tell.now c.problem.new.self c.problem.result c.whole.result (whole c.args.part) c.in-Err.fault c.whole.ensures c.problem.ensures)
