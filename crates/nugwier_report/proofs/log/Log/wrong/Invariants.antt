use Rattle.std.proofs.Common.{[], ◌∷◌, ◌++◌}
use Rattle.nugwier_report.specs.Noted.{noted}
use Rattle.nugwier_report.proofs.log.Log.wrong.Given as goal

abbrev pub ghost-picked : goal.ghost-picked
ghost-picked g a = record {
  start = a._from.now.start;
  said = a._from.now.said ++ noted a._note.now (g.D.Display.output a._fault.now) ∷ [];
}
