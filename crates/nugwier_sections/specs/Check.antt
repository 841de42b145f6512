-- What is said of a file that is checked.
use Rattle.std.specs.Prelude.{◌≡◌, ℕ, Bool, List, [], ◌∷◌, Option, Result, Ok, Err}
use Rattle.elf_records.specs.declared.parse.ParseError.{ParseError}
use Rattle.elf_reading.specs.Opening.{FileView, opened_file}
use Rattle.elf.specs.ObjectFile.{ObjectFile, object_file}
use Rattle.elf_check.specs.AllFaults.{AreAllFaults}
use Rattle.elf_check.specs.declared.faults.FileFault.{FileFault}
use Rattle.nugwier_report.specs.Said.{Said, whole, wrong}
use Rattle.nugwier_sections.specs.Verdicts.{IsVerdictSaid}
use Rattle.nugwier_report.specs.declared.problem.Fault.TheVariants.{Read}
use Rattle.nugwier_report.specs.declared.problem.Part.TheVariants.{File}

-- by the order of bytes
module _ {E : Type 0} (little : E → Bool) (of_byte : ℕ → Option E) where
  -- all faults of the file that was opened, or why it was not
  abbrev pub AreOpenedFaults : Result (FileView E) ParseError → Result (List FileFault) ParseError → Type 0
  AreOpenedFaults (Ok v) (Ok faults) = AreAllFaults (object_file little v) faults
  AreOpenedFaults (Ok v) (Err e) = ⊥
  AreOpenedFaults (Err e) (Ok faults) = ⊥
  AreOpenedFaults (Err e) (Err found) = found ≡ e

  -- of bytes that were read, or why they were not
  abbrev pub AreReadFaults : Result (List ℕ) ParseError → Result (List FileFault) ParseError → Type 0
  AreReadFaults (Ok bytes) found = AreOpenedFaults (opened_file little of_byte bytes) found
  AreReadFaults (Err e) found = found ≡ Err e

  -- of all bytes of a file. There is one list of all faults of a file.
  abbrev pub AreFaultsOf : ObjectFile → Result (List FileFault) ParseError → Type 0
  AreFaultsOf file found = AreReadFaults (file.range 0 file.size) found

  -- all faults of the file
  abbrev pub AreFoundFaults : FileView E → Result (List FileFault) ParseError → Type 0
  AreFoundFaults v found = (faults : List FileFault) × (found ≡ Ok faults) × AreAllFaults (object_file little v) faults

  -- of the file that these bytes hold
  abbrev pub AreContentFaults : List ℕ → Result (List FileFault) ParseError → Type 0
  AreContentFaults bytes found =
      (v : FileView E) × (opened_file little of_byte bytes ≡ Ok v) × AreFoundFaults v found

-- a file of this path is sound, or these are its faults; or it cannot be read
abbrev pub AreFoundSaid : List ℕ → Result (List FileFault) ParseError → List Said → Type 0
AreFoundSaid path (Ok faults) said = IsVerdictSaid path faults said
AreFoundSaid path (Err e) said = said ≡ wrong (whole File) (Read e) ∷ []

-- what is said of a file of this path
abbrev pub IsCheckSaid : {E : Type 0} → (E → Bool) → (ℕ → Option E) → List ℕ → ObjectFile → List Said → Type 0
IsCheckSaid little of_byte path file said =
    (found : Result (List FileFault) ParseError) × AreFaultsOf little of_byte file found × AreFoundSaid path found said
