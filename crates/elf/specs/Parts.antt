-- A partly loaded file, as a reader has it.
use Rattle.std.specs.Prelude.{◌≡◌, ◌⊎◌, ℕ, ◌+◌, ◌^◌, Bool, IsTrue, List, Result, Err, nat_le, nat_lt, ok_or, if◌then◌else◌}
use Rattle.elf_records.specs.declared.parse.ParseError.{ParseError}
use Rattle.elf_records.specs.declared.parse.ParseError.TheVariants.{IntegerOverflow, SliceReadError}
use Rattle.elf_reading.specs.Cache.{Piece, part_at}
use Rattle.elf_reading.specs.Refusals.{Kind, kind}
use Rattle.elf.specs.ObjectFile.{FileOf, ObjectFile, Partial, err_map}
use Rattle.elf.specs.declared.read_error.ReadError.{ReadError}
use Rattle.elf.specs.declared.read_error.ReadError.TheVariants.{Parse, NotLoaded}

-- the same error to a caller that loads nothing more
abbrev pub as_parse_error : ReadError → ParseError
as_parse_error (Parse e) = e
as_parse_error (NotLoaded range) = SliceReadError range

-- the bytes of a range by its start and its size, or why they are not had
abbrev pub Ranges : Type 0
Ranges = ℕ → ℕ → Result (List ℕ) ReadError

-- the headers of a file, over the ranges that a reader has
abbrev pub loaded : ObjectFile → Ranges → FileOf Partial
loaded file range = record {
  little = file.little;
  class = file.class;
  e_shstrndx = file.e_shstrndx;
  size = file.size;
  range = range;
  declares_sections = file.declares_sections;
  sections = file.sections;
  section_at = λ i. err_map Parse (file.section_at i);
  segments = file.segments;
}

-- all ranges of a file
abbrev pub all_ranges : ObjectFile → Ranges
all_ranges file start size = err_map Parse (file.range start size)

-- ---- a part beside the whole

-- the result over a part is that of the whole file, or it names a range that is missing
abbrev pub Follows : {A : Type 0} → (ℕ × ℕ → Bool) → Result A ParseError → Result A ReadError → Type 0
Follows is_missing whole part =
    (part ≡ err_map Parse whole) ⊎ ((range : ℕ × ℕ) × IsTrue (is_missing range) × (part ≡ Err (NotLoaded range)))

-- the ranges of a part are those of the whole file, or missing
abbrev pub ArePartOf : ObjectFile → (ℕ × ℕ → Bool) → Ranges → Type 0
ArePartOf whole is_missing range = (start size : ℕ) → Follows is_missing (whole.range start size) (range start size)

-- an error of parsing is one that bytes can have: the source and memory had no part in it
abbrev pub IsPlain : ReadError → Type 0
IsPlain (Parse e) = kind e ≡ Kind.Refusal
IsPlain (NotLoaded range) = Unit {0}

-- ---- the ranges that are loaded of a file of some size

-- the error of a range that is not loaded, by its start and its end
abbrev pub missing : ℕ → ℕ → ℕ → ReadError
missing size start end = if nat_lt size end then Parse (SliceReadError (start, end)) else NotLoaded (start, end)

-- the bytes of a range of a file of this size, with these parts loaded
abbrev pub loaded_range : ℕ → List Piece → Ranges
loaded_range size parts start count =
    if nat_le (2 ^ 64) (start + count) then Err (Parse IntegerOverflow)
    else ok_or (part_at parts start (start + count)) (missing size start (start + count))
