-- What is answered over a part of a file, beside what is answered over the whole.
use Rattle.std.specs.Prelude.{◌≡◌, ℕ, List, length}
use Rattle.std.specs.List.{All}
use Rattle.elf_records.specs.Number.{bytes_at}
use Rattle.elf_reading.specs.Cache.{IsOf, Piece}
use Rattle.elf.specs.LoadedRanges.{is_missing, parts_in}
use Rattle.elf.specs.ObjectFile.{err_map}
use Rattle.elf.specs.declared.loaded_ranges.LoadedParts.{LoadedParts}
use Rattle.elf.specs.declared.read_error.ReadError.TheVariants.{Parse}
use Rattle.elf_dynamic.specs.dynamic_view.Laws.{FollowsBy}
use Rattle.elf_loader.specs.Glibc.{FileRanges, loaded_file, verdict}
use Rattle.elf_loader.specs.declared.glibc.Kind.{Kind}

-- a file whose bytes are these
abbrev pub whole_file : List ℕ → FileRanges
whole_file bytes = record { size = length bytes; range = λ start size. err_map Parse (bytes_at size bytes start) }

-- what is loaded of a file
abbrev pub parts_of : LoadedParts → List Piece
parts_of file = parts_in file.front.now file.ranges.now

-- what is loaded is what the file has there
pub record IsPartOf (bytes : List ℕ) (file : LoadedParts) : Type 0 where
  pub size : file.size ≡ length bytes
  pub parts : All (IsOf bytes) (parts_of file)

-- the answer over the part is that over the whole file, or it names a range that lies in the file, has bytes and is not
-- loaded
abbrev pub VerdictFollows : Kind → List ℕ → LoadedParts → Type 0
VerdictFollows kind bytes file =
    FollowsBy (λ range. range) (is_missing file.size (parts_of file)) (verdict kind (whole_file bytes))
    (verdict kind (loaded_file file))
