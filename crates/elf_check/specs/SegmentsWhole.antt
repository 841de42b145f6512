-- What the segments of a file that was checked show.
use Rattle.std.specs.Prelude.{ℕ, Bool, if◌then◌else◌, List, drop, Option, Some, None, Result, Ok}
use Rattle.std.specs.declared.cmp.PartialEq.{Ghosts as PartialEqGhosts}
use Rattle.std.specs.declared.default.Default.{Ghosts as DefaultGhosts}
use Rattle.elf_abi.specs.Values.{pt_interp}
use Rattle.elf_records.specs.Number.{ok_map}
use Rattle.elf_records.specs.Record.{◌>>=◌}
use Rattle.elf_records.specs.StringTable.{string_at}
use Rattle.elf_records.specs.declared.endian.EndianParse.{Ghosts as EndianGhosts}
use Rattle.elf_records.specs.declared.parse.ParseError.{ParseError}
use Rattle.elf_records.specs.declared.segment.ProgramHeader.{ProgramHeader}
use Rattle.elf.specs.ElfBytes.{view}
use Rattle.elf.specs.Headers.{first_segment_of}
use Rattle.elf.specs.ObjectFile.{ObjectFile, object_file}
use Rattle.elf_check.specs.Segments.{is_emptied, segment_bytes}
use Rattle.elf_check.specs.SegmentsBytes.{with_bytes}
use Rattle.elf_check.specs.declared.segments.iter.WholeSegmentsIter.{WholeSegmentsIter}
use Rattle.elf_check.specs.declared.segments.whole.WholeSegments.{WholeSegments}
use denote.Ref.{Bor}

-- the path in the bytes of a segment: those before the first 0
abbrev pub path_in : ObjectFile → ProgramHeader → Result (List ℕ) ParseError
path_in file p = segment_bytes file p >>= λ bytes. string_at bytes 0

-- the path of a segment of type PT_INTERP, if there is one and it is not one of memory alone
abbrev pub path_of : ObjectFile → Option ProgramHeader → Result (Option (List ℕ)) ParseError
path_of file None = Ok None
path_of file (Some p) = if is_emptied p then Ok None else ok_map Some (path_in file p)

-- the path of the program that has to be loaded in place of the file, its interpreter
abbrev pub interpreter : ObjectFile → Result (Option (List ℕ)) ParseError
interpreter file = path_of file (first_segment_of pt_interp file.segments)

-- a program header, and the bytes of its segment
abbrev pub segment_view : ProgramHeader × Bor (List ℕ) → ProgramHeader × List ℕ
segment_view found = (found.0, found.1.now)

module _ {E : Type 0} {order : EndianGhosts E} {default : DefaultGhosts E} {equal : PartialEqGhosts E} where
  -- the file that was checked
  abbrev pub segments_file : (E → Bool) → WholeSegments E order default equal → ObjectFile
  segments_file little whole = object_file little (view whole.file.now)

  -- the segments that an iterator has left to yield
  abbrev pub segments_left : (E → Bool) → WholeSegmentsIter E order default equal → List (ProgramHeader × List ℕ)
  segments_left little s =
      let file = segments_file little s.segments in with_bytes file (drop s.next file.segments)
