-- What a check of a file says.
use Rattle.std.specs.Prelude.{◌≡◌}
use Rattle.elf.specs.ObjectFile.{ObjectFile}
use Rattle.elf_check.specs.Faults.{IsTrueOfFile}
use Rattle.elf_check.specs.Sound.{SoundFile}
use Rattle.elf_check.specs.declared.faults.FileVerdict.{FileVerdict}
use Rattle.elf_check.specs.declared.faults.FileVerdict.TheVariants.{Faulty, Sound}

-- a type C of checked files, with the view of the file: sound exactly if the file is, else a fault that is
-- true
abbrev pub IsVerdict : {C : Type 0} → (C → ObjectFile) → ObjectFile → FileVerdict C → Type 0
IsVerdict view file (Sound whole) = SoundFile file × (view whole ≡ file)
IsVerdict view file (Faulty fault) = (¬ SoundFile file) × IsTrueOfFile file fault
