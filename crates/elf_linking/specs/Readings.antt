-- What a reading of a stream gives and leaves, and when it takes memory.
use Rattle.std.specs.Prelude.{◌≡◌, Bool, ℕ, List, Option, Some, None, Result, Ok, Err, IfSome}
use Rattle.std.specs.Option.{option_map}
use Rattle.elf_records.specs.declared.parse.ParseError.{ParseError}
use Rattle.elf.specs.ElfStream.{Keeps, Leaves, StreamView}
use Rattle.elf.specs.declared.read_error.ReadError.{ReadError}
use Rattle.elf.specs.declared.read_error.ReadError.TheVariants.{NotLoaded, Parse}
use Rattle.elf_reading.specs.Refusals.{IsRefused, Kind, kind}

-- ---- a reading that loads whatever is missing

-- The answer, from a source that did not fail: a value, or the same error. Or the error with which the source or an
-- allocation failed. What kind an error is the first argument says.
abbrev pub IsReading :
    {T Y X : Type 0} → (X → Kind) → (T → Y) → Result Y X → Bool → ℕ → ℕ → Result T X → Type 0
IsReading kind_of shown answer can_fail before now (Ok x) = (now ≡ before) × (answer ≡ Ok (shown x))
IsReading kind_of shown answer can_fail before now (Err e) =
    IsRefused before now can_fail (answer ≡ Err e) (kind_of e)

-- the same file, no cached range lost, and where the content is known its answer
pub record ReadsFile {E T Y X : Type 0} (kind_of : X → Kind) (shown : T → Y) (answer : List ℕ → Result Y X)
    (old new : StreamView E) (r : Result T X) : Type 0 where
  pub keeps : Keeps old new
  pub answers : IfSome old.content (λ bytes.
      IsReading kind_of shown (answer bytes) old.can_fail old.failures new.failures r)

-- memory is needed for a range that is missing, and for a copy of a value
abbrev pub NeedsMemory : {Y : Type 0} → Result (Option Y) ReadError → Type 0
NeedsMemory (Ok (Some y)) = Unit {0}
NeedsMemory (Ok None) = ⊥
NeedsMemory (Err (NotLoaded range)) = Unit {0}
NeedsMemory (Err (Parse e)) = ⊥

-- ---- a call whose value is copied

-- the copy, or its allocation failed; without a value nothing is copied
abbrev pub IsCopy :
    {T Y : Type 0} → (T → Y) → Result (Option Y) ParseError → Result (Option T) ParseError → Type 0
IsCopy shown (Ok (Some y)) (Ok copy) = option_map shown copy ≡ Some y
IsCopy shown (Ok (Some y)) (Err e) = kind e ≡ Kind.AllocationFailure
IsCopy shown (Ok None) r = r ≡ Ok None
IsCopy shown (Err e) r = r ≡ Err e

-- the call leaves what Leaves says, whatever becomes of the copy of what it found
pub record LeavesCopy {E T Y : Type 0} (requested : List (ℕ × ℕ)) (shown : T → Y)
    (answer : List ℕ → Result (Option Y) ParseError) (old new : StreamView E)
    (r : Result (Option T) ParseError) : Type 0 where
  pub found : Result (Option Y) ParseError
  pub leaves : Leaves requested (λ value. value) answer old new found
  pub copied : IsCopy shown found r
