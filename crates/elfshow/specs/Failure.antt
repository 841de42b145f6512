-- Why the program stops: by what stopped a part of it, and with which exit status.
use Rattle.std.specs.Prelude.{ℕ, Option, Some, None, Result, Ok, Err}
use Rattle.elfshow.specs.declared.runs.RunError.{RunError}
use Rattle.elfshow.specs.declared.runs.RunError.TheVariants as run
use Rattle.elfshow.specs.declared.failure.Failure.{Failure}
use Rattle.elfshow.specs.declared.failure.Failure.TheVariants as failure
use Rattle.elfshow.specs.declared.show.RequestError.{RequestError}
use Rattle.elfshow.specs.declared.show.RequestError.TheVariants as request

-- the exit status of a failure
abbrev pub status_of : Failure → ℕ
status_of failure.Usage = 2
status_of failure.OutOfMemory = 1
status_of (failure.File e) = 1
status_of (failure.Open e) = 1
status_of (failure.Fault done e) = 1
status_of (failure.Write done e) = 1

-- the failure of words that are no request, or of a request that found no memory
abbrev pub failure_of_request : RequestError → Failure
failure_of_request request.Usage = failure.Usage
failure_of_request request.OutOfMemory = failure.OutOfMemory

-- the failure of a run that stopped
abbrev pub failure_of : RunError → Failure
failure_of (run.Open e) = failure.Open e
failure_of (run.Fault done e) = failure.Fault done e
failure_of (run.Write done e) = failure.Write done e

-- the run that ended so, if there was one: words that are no request, and a file that cannot be opened or read, run
-- nothing
abbrev pub run_of : Result (Unit {0}) Failure → Option (Result (Unit {0}) RunError)
run_of (Ok done) = Some (Ok done)
run_of (Err failure.Usage) = None
run_of (Err failure.OutOfMemory) = None
run_of (Err (failure.File e)) = None
run_of (Err (failure.Open e)) = Some (Err (run.Open e))
run_of (Err (failure.Fault done e)) = Some (Err (run.Fault done e))
run_of (Err (failure.Write done e)) = Some (Err (run.Write done e))

-- it is of a file: that cannot be opened or read, or a run over which stopped
abbrev pub IsFailureOfFile : Failure → Type 0
IsFailureOfFile failure.Usage = ⊥
IsFailureOfFile failure.OutOfMemory = ⊥
IsFailureOfFile (failure.File e) = Unit {0}
IsFailureOfFile (failure.Open e) = Unit {0}
IsFailureOfFile (failure.Fault done e) = Unit {0}
IsFailureOfFile (failure.Write done e) = Unit {0}
