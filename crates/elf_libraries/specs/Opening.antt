-- What becomes of a library that is opened.
use Rattle.std.specs.Prelude.{◌≡◌, ℕ, List, Option, Some, None}
use Rattle.elf_libraries.specs.declared.opening.Opening.{Opening}
use Rattle.elf_libraries.specs.declared.opening.Opening.TheVariants.{Missing, Parts, Whole}

-- it is read by parts, of a file that is there, or it is missing, and no file is there
abbrev pub IsOpening : {S : Type 0} → (S → Option (List ℕ)) → Option (List ℕ) → Opening S → Type 0
IsOpening content file (Parts source) = (bytes : List ℕ) × (file ≡ Some bytes) × (content source ≡ Some bytes)
IsOpening content file Whole = Unit {0}
IsOpening content file Missing = file ≡ None
