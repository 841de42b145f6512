-- Places of C that are filled from their front with what a table holds.
use Rattle.std.specs.Prelude.{◌≡◌, ℕ, ◌+◌, ◌^◌, ◌<◌, ◌≤◌, ◌⊎◌, slice_get, drop, length, List, Option, Some, None}
use Rattle.std.specs.Prelude.{IsErr, Result, Ok, Err}
use Rattle.elf_records.specs.declared.parse.ParseError.{ParseError}

-- a place is the record as C sees it
abbrev pub IsShown : {A C : Type 0} → (A → C) → A → C → Type 0
IsShown shown x place = place ≡ shown x

-- a place holds what is read
abbrev pub IsHeld : {A C : Type 0} → (A → C → Type 0) → Result A ParseError → Option C → Type 0
IsHeld Holds (Ok x) (Some place) = Holds x place
IsHeld Holds (Ok x) None = ⊥
IsHeld Holds (Err e) place = ⊥

-- the first n places hold what is read from number `first` on
abbrev pub AreHeld : {A C : Type 0} → (A → C → Type 0) → (ℕ → Result A ParseError) → ℕ → ℕ → List C → Type 0
AreHeld Holds read first n places = (k : ℕ) → k < n → IsHeld Holds (read (first + k)) (slice_get places k)

-- so they do, and the others are as they were
pub record AreRead {A C : Type 0} (Holds : A → C → Type 0) (read : ℕ → Result A ParseError) (first n : ℕ)
    (old new : List C) : Type 0 where
  pub count : n ≤ length new
  pub held : AreHeld Holds read first n new
  pub rest : drop n new ≡ drop n old

-- up to the first that cannot be read, and no more than there are places
pub record AreFilled {A C : Type 0} (Holds : A → C → Type 0) (read : ℕ → Result A ParseError) (first n : ℕ)
    (old new : List C) : Type 0 where
  pub front : AreRead Holds read first n old new
  pub all : n < length new → IsErr (read (first + n)) ⊎ (2 ^ 64 ≤ first + n)
