-- A walk over the faults of a file. It goes over the subjects of the check in their order, and gives the fault of each
-- that is not sound.
use Rattle.std.specs.Prelude.{◌≡◌, ◌++◌, List, [], ◌∷◌, Bool, Option, Some, None}
use Rattle.std.specs.declared.cmp.PartialEq.{Ghosts as PartialEqGhosts}
use Rattle.std.specs.declared.default.Default.{Ghosts as DefaultGhosts}
use Rattle.elf_records.specs.declared.endian.EndianParse.{Ghosts as EndianGhosts}
use Rattle.elf.specs.ElfBytes.{view}
use Rattle.elf.specs.ObjectFile.{ObjectFile, object_file}
use Rattle.elf_check.specs.AllFaults.{AreFaults, Subject}
use Rattle.elf_check.specs.Stages.{checked_in, subjects_in}
use Rattle.elf_check.specs.declared.checking.FaultWalk.{FaultWalk}
use Rattle.elf_check.specs.declared.faults.FileFault.{FileFault}

-- the file, all subjects of the walk, and those that were checked
pub record Checking : Type 0 where
  pub file : ObjectFile
  pub all : List Subject
  pub checked : List Subject

abbrev pub unchecked : ObjectFile → List Subject → Checking
unchecked file all = record { file = file; all = all; checked = [] }

-- After sound subjects comes one with this fault; they are the first of all. Or all that are left are sound.
abbrev pub IsFaultAfter : ObjectFile → List Subject → List Subject → List Subject → Option FileFault → Type 0
IsFaultAfter file all before after (Some fault) =
    (more : List Subject) × (after ≡ before ++ more) × AreFaults file more (fault ∷ [])
    × ((left : List Subject) × (all ≡ after ++ left))
IsFaultAfter file all before after None =
    (more : List Subject) × (all ≡ before ++ more) × AreFaults file more [] × (after ≡ all)

abbrev pub IsNextFault : Checking → Checking → Option FileFault → Type 0
IsNextFault before after fault =
    (after.file ≡ before.file) × (after.all ≡ before.all)
    × IsFaultAfter before.file before.all before.checked after.checked fault

module _ {E : Type 0} {order : EndianGhosts E} {default : DefaultGhosts E} {equal : PartialEqGhosts E} where
  -- what a walk is over, and what it checked
  abbrev pub checking : (E → Bool) → FaultWalk E order default equal → Checking
  checking little walk =
      let file = object_file little (view walk.walk.file.now) in record {
        file = file;
        all = subjects_in file walk.stages.now;
        checked = checked_in file walk.stages.now walk.stage walk.index;
      }
