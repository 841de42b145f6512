-- When a file is sound (gABI, chapters "Sections" and "Program Header"): what its headers declare can be read.
use Rattle.std.specs.Prelude.{◌≡◌, ℕ, ◌+◌, ◌<◌, ◌^◌, List, None, Ok, IsOk, length}
use Rattle.elf.specs.Names.{name_table}
use Rattle.elf.specs.ObjectFile.{ObjectFile}
use Rattle.elf_check.specs.Members.{AllSound}
use Rattle.elf_check.specs.Sections.{SoundSection, repeated_type}
use Rattle.elf_check.specs.Segments.{SoundSegments}
use Rattle.elf_check.specs.versions.InFile.{SoundVersions}

-- a range that can be read ends within 64 bits, and has as many bytes as it is said to have
abbrev pub IsSized : ObjectFile → Type 0
IsSized file =
    (start size : ℕ) (part : List ℕ) → file.range start size ≡ Ok part → (start + size < 2 ^ 64) × (length part ≡ size)

-- the names of the sections can be read, no type that one section may have has two, each section is sound, and so are
-- the versions of symbols and the segments
pub record SoundFile (file : ObjectFile) : Type 0 where
  pub names : IsOk (name_table file)
  pub single : repeated_type file ≡ None
  pub sections : AllSound file.section_at (SoundSection file)
  pub versions : SoundVersions file
  pub segments : SoundSegments file
