-- What a reading of a stream loads that loads whatever is missing.
use Rattle.std.specs.Prelude.{◌≡◌, ◌⊎◌, ℕ, ◌-◌, Bool, [], ◌∷◌, IfSome}
use Rattle.elf.specs.ElfStream.{IsCached, IsRequested, Keeps, StreamView}
use Rattle.elf.specs.Loaded.{AreLoadedOf, loaded_ranges, streamed_file}
use Rattle.elf.specs.ObjectFile.{FileOf, Partial}
use Rattle.elf.specs.Parts.{loaded}

-- the part of the file that a stream has loaded
abbrev pub loaded_part : {E : Type 0} → (E → Bool) → StreamView E → FileOf Partial
loaded_part little s = loaded (streamed_file little s) (loaded_ranges s)

-- The reading misses the range, given by its start and its end, of what a stream over the same source can have loaded.
pub record IsMissed {E : Type 0} (little : E → Bool) (Misses : FileOf Partial → ℕ × ℕ → Type 0) (old : StreamView E)
    (range : ℕ × ℕ) : Type 0 where
  pub middle : StreamView E
  pub keeps : Keeps old middle
  pub content : IfSome old.content (λ bytes. AreLoadedOf little middle bytes)
  pub missed : Misses (loaded_part little middle) range

-- No range is cached that was not cached before and does not lie within one that the reading missed; if it misses none
-- of what the stream has loaded, the stream is as it was.
pub record LoadsMissing {E : Type 0} (little : E → Bool) (Misses : FileOf Partial → ℕ × ℕ → Type 0)
    (old new : StreamView E) : Type 0 where
  pub only : (low high : ℕ) → IsCached new low high → IsCached old low high
      ⊎ ((range : ℕ × ℕ) × IsMissed little Misses old range × IsRequested ((range.0, range.1 - range.0) ∷ []) low high)
  pub untouched : ((range : ℕ × ℕ) → Misses (loaded_part little old) range → ⊥) → new ≡ old
