use Rattle.std.proofs.Common.{sym}
use Rattle.nugwier_dynamic.specs.Chains.{chains_in, entry_said, hash_view}
use Rattle.nugwier_report.proofs.Saying.{saying_nothing}
use Rattle.nugwier_dynamic.proofs.chains.tell_entry.Goals as goal

-- a silent teller stays as it is
pub returns-then-is_silent : goal.returns-then-is_silent
returns-then-is_silent g c =
    sym (saying_nothing g.T.Tell.one c.args.tell.now (entry_said c.args.tag.now (chains_in (hash_view c.args.table.now))) (c.is_silent.ensures.nothing c.if-is_silent.true))
