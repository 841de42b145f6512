-- An object file whose headers are lists, as a stream has them.
use Rattle.std.specs.Prelude.{ℕ, Bool, List, Result, length, ok_or, slice_get}
use Rattle.elf_records.specs.Number.{bytes_at}
use Rattle.elf_records.specs.declared.parse.ParseError.{ParseError}
use Rattle.elf_records.specs.declared.parse.ParseError.TheVariants.{BadOffset}
use Rattle.elf_records.specs.declared.section.SectionHeader.{SectionHeader}
use Rattle.elf.specs.ObjectFile.{ObjectFile}
use Rattle.elf.specs.ElfStream.{StreamView}
use Rattle.elf_reading.specs.Opening.{StreamHeaders}

-- member i of the list, or that there is none
abbrev pub listed_at : List SectionHeader → ℕ → Result SectionHeader ParseError
listed_at sections i = ok_or (slice_get sections i) (BadOffset i)

-- these headers over these bytes
abbrev pub listed_file : {E : Type 0} → (E → Bool) → StreamHeaders E → List ℕ → ObjectFile
listed_file little h bytes = record {
  little = little h.ehdr.endianness;
  class = h.ehdr.class;
  e_shstrndx = h.ehdr.e_shstrndx;
  size = length bytes;
  range = λ start size. bytes_at size bytes start;
  declares_sections = h.declares_sections;
  sections = h.sections;
  section_at = listed_at h.sections;
  segments = h.segments;
}

-- what a stream is to its answers, over these bytes
abbrev pub stream_file : {E : Type 0} → (E → Bool) → StreamView E → List ℕ → ObjectFile
stream_file little s bytes = listed_file little s.headers bytes
