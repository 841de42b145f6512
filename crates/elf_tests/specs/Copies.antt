-- The bytes of a section of a file in memory.
use Rattle.std.specs.Prelude.{◌≡◌, ℕ, Bool, List, Option, Ok}
use Rattle.elf_records.specs.declared.section.SectionHeader.{SectionHeader}
use Rattle.elf.specs.Data.{content}
use Rattle.elf_reading.specs.Opening.{FileView}
use Rattle.elf.specs.ObjectFile.{object_file}
use Rattle.elf_reading.specs.Opening.{opened_file}

-- `ElfBytes` opens the file, and these are the bytes that it gives of the section
abbrev pub IsSectionOf : {E : Type 0} → (E → Bool) → (ℕ → Option E) → List ℕ → SectionHeader → List ℕ → Type 0
IsSectionOf {E} little of_byte bytes s copy =
    (v : FileView E) × (opened_file little of_byte bytes ≡ Ok v) × (content (object_file little v) s ≡ Ok copy)
