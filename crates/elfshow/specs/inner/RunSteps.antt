-- Why a run stopped; the contract of a private function speaks of it.
use Rattle.std.specs.Prelude.{ℕ}
use Rattle.elfshow.specs.declared.stream.Stop.{Stop}
use Rattle.elfshow.specs.declared.stream.Stop.TheVariants as stop
use Rattle.elfshow.specs.declared.runs.RunError.{RunError}
use Rattle.elfshow.specs.declared.runs.RunError.TheVariants.{Fault, Write}

-- why a run stopped, by what stopped its call
abbrev pub stopped_after : ℕ → Stop → RunError
stopped_after done (stop.Fault e) = Fault done e
stopped_after done (stop.Write e) = Write done e
