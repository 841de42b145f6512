use Rattle.std.proofs.Common.{[]}
use Rattle.nugwier_report.proofs.log.Log.new.Given as goal

abbrev pub ghost-picked : goal.ghost-picked
ghost-picked g a = record { start = a._from.now; said = [] }
