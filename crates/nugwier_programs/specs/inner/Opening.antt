-- What is loaded of a file, as the code has it.
use Rattle.std.specs.Prelude.{◌≡◌, ℕ, List, [], Option, Some, None, Result, Ok, Err}
use Rattle.std.specs.Option.{IsSomeAnd}
use Rattle.elf_records.specs.declared.endian.AnyEndian.{AnyEndian}
use Rattle.elf_records.specs.declared.parse.ParseError.{ParseError}
use Rattle.elf_reading.specs.Opening.{FileView}
use Rattle.elf.specs.ElfStream.{StreamView}
use Rattle.elf_libraries.specs.Tree.{linked_file}
use Rattle.nugwier_programs.specs.Bindings.{IsPartOf}
use Rattle.nugwier_programs.specs.inner.Scope.{open_at}

-- it is of the file that these bytes hold
abbrev pub IsLinkedTo : List ℕ → StreamView AnyEndian → Type 0
IsLinkedTo bytes s =
    (v : FileView AnyEndian) × (linked_file bytes ≡ Ok v) × IsPartOf v (open_at [] s)

-- or they hold none
abbrev pub IsLoadedAs : List ℕ → Result (StreamView AnyEndian) ParseError → Type 0
IsLoadedAs bytes (Ok s) = IsLinkedTo bytes s
IsLoadedAs bytes (Err e) = linked_file bytes ≡ Err e

-- the same of a file with this content, if there is one
abbrev pub IsLoadedFrom : Option (List ℕ) → Option (Result (StreamView AnyEndian) ParseError) → Type 0
IsLoadedFrom None found = found ≡ None
IsLoadedFrom (Some bytes) found = IsSomeAnd found (IsLoadedAs bytes)
