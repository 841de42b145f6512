-- What a walk over faults finds at a subject.
use Rattle.std.specs.Prelude.{Option, MatchOption}
use Rattle.elf.specs.ObjectFile.{ObjectFile}
use Rattle.elf_check.specs.AllFaults.{IsFaultOfSubject, SoundSubject, Subject}
use Rattle.elf_check.specs.declared.faults.FileFault.{FileFault}

-- the fault of a subject, if it is not sound
abbrev pub IsFaultIfAny : ObjectFile → Subject → Option FileFault → Type 0
IsFaultIfAny file subject fault = MatchOption fault (SoundSubject file subject) (IsFaultOfSubject file subject)
