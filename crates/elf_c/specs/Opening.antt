-- A file that is opened as far as it is loaded.
use Rattle.std.specs.Prelude.{◌≡◌, ◌⊎◌, ℕ, IfOk, IsTrue, List, [], length}
use Rattle.elf.specs.LoadedRanges.{is_missing, parts_in}
use Rattle.elf.specs.declared.read_error.ReadError.TheVariants.{NotLoaded}
use Rattle.elf_c.specs.File.{MissingAreEmpty, opened_in, view_over}
use Rattle.elf_c.specs.Status.{IsWritten, status_of, unread}
use Rattle.elf_c.specs.declared.file.NugwierFile.{NugwierFile}
use Rattle.elf.specs.declared.loaded_ranges.LoadedRange.{LoadedRange}
use Rattle.elf_c.specs.declared.status.NugwierStatus.{NugwierStatus}

-- a call opened the file that these bytes hold, or returned why they hold none; before it `old` was there, and these
-- ranges are loaded
pub record IsOpenedAs (bytes : List ℕ) (ranges : List LoadedRange) (old new : NugwierFile) (status : NugwierStatus)
    : Type 0 where
  pub answer : status ≡ status_of (opened_in bytes)
  pub file : IsWritten (λ f. view_over f bytes) new old (opened_in bytes)
  pub missing : IfOk (opened_in bytes) (λ _. MissingAreEmpty new)
  pub size : IfOk (opened_in bytes) (λ _. new.size ≡ length bytes)
  pub front : IfOk (opened_in bytes) (λ _. new.bytes.now ≡ [])
  pub held : IfOk (opened_in bytes) (λ _. new.ranges.now ≡ ranges)

-- a call named a range that is missing, and wrote nothing
abbrev pub IsNotLoaded : ℕ → List LoadedRange → NugwierFile → NugwierFile → NugwierStatus → Type 0
IsNotLoaded size ranges old new status =
    (range : ℕ × ℕ) × IsTrue (is_missing size (parts_in [] ranges) range) × (status ≡ unread (NotLoaded range))
    × (new ≡ old)

-- either of them, of a file with these bytes
abbrev pub IsOpened : List ℕ → List LoadedRange → NugwierFile → NugwierFile → NugwierStatus → Type 0
IsOpened bytes ranges old new status =
    IsOpenedAs bytes ranges old new status ⊎ IsNotLoaded (length bytes) ranges old new status
