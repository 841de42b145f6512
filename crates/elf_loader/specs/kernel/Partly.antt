-- What is read of a partly loaded program or interpreter, beside the whole file.
use Rattle.std.specs.Prelude.{◌≡◌, ◌⊎◌, ℕ, Bool, IsTrue, List, length, All, Result, Err}
use Rattle.elf_records.specs.Number.{bytes_at}
use Rattle.elf_reading.specs.Cache.{IsOf, Piece}
use Rattle.elf.specs.LoadedRanges.{is_missing, ranges_in}
use Rattle.elf.specs.ObjectFile.{err_map}
use Rattle.elf.specs.Parts.{Ranges}
use Rattle.elf.specs.declared.read_error.ReadError.TheVariants.{Parse}
use Rattle.elf_loader.specs.declared.kernel.platform.Platform.{Platform}
use Rattle.elf_loader.specs.declared.kernel.program.ExecError.{ExecError}
use Rattle.elf_loader.specs.declared.kernel.program.ExecError.TheVariants.{Missing}
use Rattle.elf_loader.specs.kernel.Program.{interpreter_in, program_in}

-- the ranges of a whole file
abbrev pub whole_ranges : List ℕ → Ranges
whole_ranges bytes start count = err_map Parse (bytes_at count bytes start)

-- the result over a part is that of the whole file, or it names a range that is missing
abbrev pub FollowsWhole : {A : Type 0} → (ℕ × ℕ → Bool) → Result A ExecError → Result A ExecError → Type 0
FollowsWhole away whole part = (part ≡ whole) ⊎ ((range : ℕ × ℕ) × IsTrue (away range) × (part ≡ Err (Missing range)))

-- each part has the bytes that the file has there
abbrev pub ArePartsOf : List ℕ → List Piece → Type 0
ArePartsOf bytes parts = All (IsOf bytes) parts

-- so it is for programs, and for interpreters
abbrev pub ProgramsFollow : Type 0
ProgramsFollow =
    (platform : Platform) (bytes : List ℕ) (parts : List Piece) → ArePartsOf bytes parts →
    let size = length bytes in
    FollowsWhole (is_missing size parts) (program_in platform size (whole_ranges bytes))
    (program_in platform size (ranges_in size parts))

abbrev pub InterpretersFollow : Type 0
InterpretersFollow =
    (platform : Platform) (bytes : List ℕ) (parts : List Piece) → ArePartsOf bytes parts →
    let size = length bytes in
    FollowsWhole (is_missing size parts) (interpreter_in platform size (whole_ranges bytes))
    (interpreter_in platform size (ranges_in size parts))
