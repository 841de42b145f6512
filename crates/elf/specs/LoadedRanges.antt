-- A file that its caller has loaded in part: the bytes at its front, and ranges.
use Rattle.std.specs.Prelude.{ℕ, ◌+◌, ◌^◌, ◌==◌, ◌&&◌, Bool, not, nat_le, nat_lt, if◌then◌else◌, List, [], ◌∷◌, map}
use Rattle.std.specs.Prelude.{Ok, Err}
use Rattle.elf_records.specs.Number.{bytes_at}
use Rattle.elf_records.specs.declared.parse.ParseError.TheVariants.{IntegerOverflow}
use Rattle.elf_reading.specs.Cache.{Piece, is_cached, range_of}
use Rattle.elf.specs.ElfBytes.{view}
use Rattle.elf.specs.ObjectFile.{ObjectFile, object_file}
use Rattle.elf.specs.Parts.{Ranges, loaded_range}
use Rattle.elf.specs.declared.loaded_ranges.LoadedRange.{LoadedRange}
use Rattle.elf.specs.declared.loaded_ranges.LoadedRanges.{LoadedRanges}
use Rattle.elf.specs.declared.read_error.ReadError.TheVariants.{Parse}

-- a range with its bytes, as a part of the file
abbrev pub part_of : LoadedRange → Piece
part_of range = record { start = range.start; bytes = range.bytes.now }

-- what is loaded: these bytes at the front, and these ranges
abbrev pub parts_in : List ℕ → List LoadedRange → List Piece
parts_in front ranges = record { start = 0; bytes = front } ∷ map part_of ranges

-- the bytes of a range of a file of this size with these parts loaded; a range with no bytes is always loaded
abbrev pub ranges_in : ℕ → List Piece → Ranges
ranges_in size parts start count =
    if nat_le (2 ^ 64) (start + count) then Err (Parse IntegerOverflow)
    else if (count == 0) && nat_le start size then Ok []
    else loaded_range size parts start count

-- a range, by its start and its end, that lies in a file of this size, has bytes, and is held by none of the parts
abbrev pub is_missing : ℕ → List Piece → ℕ × ℕ → Bool
is_missing size parts range =
    nat_lt range.0 range.1 && (nat_le range.1 size && not (is_cached (map range_of parts) range.0 range.1))

-- ---- with headers

-- what is loaded, with the bytes of its headers' file at the front
abbrev pub parts_of : {E : Type 0} → LoadedRanges E → List Piece
parts_of s = parts_in (view s.headers).bytes s.ranges.now

-- its ranges
abbrev pub ranges_of : {E : Type 0} → LoadedRanges E → Ranges
ranges_of s = ranges_in s.size (parts_of s)

-- its headers, and its size
abbrev pub ranges_file : {E : Type 0} → (E → Bool) → LoadedRanges E → ObjectFile
ranges_file little s = record (object_file little (view s.headers)) { size = s.size }

-- the same headers over these bytes
abbrev pub whole_file : {E : Type 0} → (E → Bool) → LoadedRanges E → List ℕ → ObjectFile
whole_file little s bytes = record (ranges_file little s) { range = λ start size. bytes_at size bytes start }
