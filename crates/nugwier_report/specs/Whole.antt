-- The file that is loaded in part.
use Rattle.std.specs.Prelude.{ℕ, Bool, List, Option, Some, None, Result}
use Rattle.elf_reading.specs.Opening.{StreamHeaders}
use Rattle.elf_records.specs.Number.{bytes_at}
use Rattle.elf_records.specs.declared.parse.ParseError.{ParseError}
use Rattle.elf.specs.ElfStream.{StreamView}
use Rattle.elf.specs.Loaded.{loaded_ranges}
use Rattle.elf.specs.ObjectFile.{ObjectFile, err_map}
use Rattle.elf.specs.Parts.{as_parse_error}
use Rattle.elf.specs.StreamFile.{listed_file}
use Rattle.nugwier_report.specs.declared.in_memory.FileInMemory.{FileInMemory}

-- the file with these headers, over these ranges
abbrev pub file_of : ObjectFile → (ℕ → ℕ → Result (List ℕ) ParseError) → ObjectFile
file_of headers range = record headers { range = range }

-- ---- of a stream: the ranges of the content; if that is not known, those that are loaded, and no other can be read

abbrev pub range_by : {E : Type 0} → StreamView E → Option (List ℕ) → ℕ → ℕ → Result (List ℕ) ParseError
range_by s (Some bytes) start size = bytes_at size bytes start
range_by s None start size = err_map as_parse_error (loaded_ranges s start size)

abbrev pub stream_range : {E : Type 0} → StreamView E → ℕ → ℕ → Result (List ℕ) ParseError
stream_range s = range_by s s.content

-- ---- of a file in memory: all ranges of its bytes

abbrev pub memory_range : {E : Type 0} → FileInMemory E → ℕ → ℕ → Result (List ℕ) ParseError
memory_range f start size = bytes_at size f.bytes.now start

abbrev pub headers_view : {E : Type 0} → FileInMemory E → StreamHeaders E
headers_view f = record {
  ehdr = f.ehdr;
  declares_sections = f.declares_sections;
  sections = f.sections.items;
  segments = f.segments.items;
}

abbrev pub memory_file : {E : Type 0} → (E → Bool) → FileInMemory E → ObjectFile
memory_file little f = listed_file little (headers_view f) f.bytes.now
