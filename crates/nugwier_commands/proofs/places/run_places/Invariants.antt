use Rattle.std.proofs.Common.{None, map}
use Rattle.nugwier_commands.specs.Run.{first_heading}
use Rattle.nugwier_commands.specs.Walk.{named, places_of}
use Rattle.nugwier_commands.proofs.AllFiles.{ArePlacesSoFar}
use Rattle.nugwier_commands.specs.Words.{task_of}
use Rattle.nugwier_commands.proofs.places.run_places.Given as goal

-- what was found so far was told
abbrev pub invariant-places : goal.invariant-places
invariant-places g l =
    let task = task_of l.job in
    ArePlacesSoFar g.R.Run.one (g.F.Files.known l.files) task (first_heading task.command None) (map named task.files) l.fn.run l.heading (places_of l.walk) l.run
