-- What was read of a file from a source, and what is answered of it.
use Rattle.std.specs.Prelude.{◌≡◌, ℕ, ◌<◌, ◌≤◌, List, length, Result, Ok, Err}
use Rattle.elf_reading.specs.Cache.{Piece}
use Rattle.elf_loader.specs.Glibc.{verdict}
use Rattle.elf_loader.specs.GlibcLaws.{whole_file}
use Rattle.elf_loader.specs.declared.glibc.Candidate.{Candidate}
use Rattle.elf_loader.specs.declared.glibc.Kind.{Kind}
use Rattle.elf_loader.specs.declared.glibc.reading.FetchedRange.{FetchedRange}

-- a range that was read, as a part of the file
abbrev pub fetched_piece : FetchedRange → Piece
fetched_piece range = record { start = range.start; bytes = range.bytes.items }

-- what is answered of the whole file, or a range that lies in the file and has bytes
abbrev pub IsAnswerOf : Kind → List ℕ → Result Candidate (ℕ × ℕ) → Type 0
IsAnswerOf kind bytes (Ok found) = verdict kind (whole_file bytes) ≡ Ok found
IsAnswerOf kind bytes (Err range) = (range.0 < range.1) × (range.1 ≤ length bytes)
