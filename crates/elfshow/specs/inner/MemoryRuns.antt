-- What stops a run whose text goes to memory; contracts of private functions speak of it.
use Rattle.elf_records.specs.declared.parse.ParseError.TheVariants.{OutOfMemory}
use Rattle.elfshow.specs.declared.runs.RunError.{RunError}
use Rattle.elfshow.specs.declared.runs.RunError.TheVariants.{Fault, Open, Write}

-- the error of a run whose text goes to memory: a failed write there is a failed allocation
abbrev pub in_memory : RunError → RunError
in_memory (Open e) = Open e
in_memory (Fault done e) = Fault done e
in_memory (Write done e) = Fault 0 OutOfMemory

-- no writer failed
abbrev pub IsUnfailing : RunError → Type 0
IsUnfailing (Open e) = Unit {0}
IsUnfailing (Fault done e) = Unit {0}
IsUnfailing (Write done e) = ⊥
