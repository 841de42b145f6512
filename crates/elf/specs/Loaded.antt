-- What a stream has loaded of its file.
use Rattle.std.specs.Prelude.{◌≡◌, ℕ, ◌+◌, Bool, List, [], length, not}
use Rattle.elf_reading.specs.Cache.{is_cached}
use Rattle.elf.specs.ElfStream.{IsCached, StreamView}
use Rattle.elf.specs.ObjectFile.{ObjectFile}
use Rattle.elf.specs.Parts.{ArePartOf, Ranges, all_ranges, loaded_range}
use Rattle.elf.specs.StreamFile.{stream_file}

-- the ranges that a stream has loaded
abbrev pub loaded_ranges : {E : Type 0} → StreamView E → Ranges
loaded_ranges s = loaded_range s.size s.parts

-- a range, by its start and its end, that is not cached
abbrev pub is_not_cached : {E : Type 0} → StreamView E → ℕ × ℕ → Bool
is_not_cached s range = not (is_cached s.cached range.0 range.1)

-- the headers of a stream, and the length of its source
abbrev pub streamed_file : {E : Type 0} → (E → Bool) → StreamView E → ObjectFile
streamed_file little s = record (stream_file little s []) { size = s.size }

-- what a stream over these bytes has loaded is theirs, and what is cached is loaded
pub record AreLoadedOf {E : Type 0} (little : E → Bool) (s : StreamView E) (bytes : List ℕ) : Type 0 where
  pub size : s.size ≡ length bytes
  pub part : ArePartOf (stream_file little s bytes) (is_not_cached s) (loaded_ranges s)
  pub cached : (start size : ℕ) → IsCached s start (start + size)
      → loaded_ranges s start size ≡ all_ranges (stream_file little s bytes) start size
