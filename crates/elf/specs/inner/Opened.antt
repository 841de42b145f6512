-- What is true of every stream: its buffers are the content's bytes, and its tables those of the file that the content
-- holds.
use Rattle.std.specs.Prelude.{◌≡◌, ℕ, Bool, List, Option, Ok, IfSome, is_some}
use Rattle.elf_records.specs.declared.section.SectionHeader.{SectionHeader}
use Rattle.elf_records.specs.declared.segment.ProgramHeader.{ProgramHeader}
use Rattle.elf_reading.specs.Opening.{FileView, section_list, segment_list}
use Rattle.elf_reading.specs.Cache.{IsSoundCache, Piece}
use Rattle.elf.specs.ElfStream.{opened_as}

-- the tables that the opening gives of the bytes
abbrev pub AreTables :
    {E : Type 0} → (E → Bool) → (ℕ → Option E) → Bool →
    List ℕ → Bool → List SectionHeader → List ProgramHeader → Type 0
AreTables {E} little of_byte by_segments bytes declares_sections sections segments =
    (v : FileView E) × (opened_as little of_byte by_segments bytes ≡ Ok v) × (declares_sections ≡ is_some v.sections)
    × (sections ≡ section_list v.sections) × (segments ≡ segment_list v.segments)

pub record IsOpened {E : Type 0} (little : E → Bool) (of_byte : ℕ → Option E) (content : Option (List ℕ))
    (size : ℕ) (pieces : List Piece) (by_segments declares_sections : Bool)
    (sections : List SectionHeader) (segments : List ProgramHeader) : Type 0 where
  pub sound : IsSoundCache content size pieces
  pub tables : IfSome content (λ bytes. AreTables little of_byte by_segments bytes declares_sections sections segments)
