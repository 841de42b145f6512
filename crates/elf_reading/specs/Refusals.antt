-- Why a call that reads a source returns an error.
use Rattle.std.specs.Prelude.{◌≡◌, ℕ, ◌<◌, Bool, IsTrue, Result, Ok, Err, IsErr, IsOk}
use Rattle.elf_records.specs.declared.parse.ParseError.{ParseError}
use Rattle.elf_records.specs.declared.parse.ParseError.TheVariants.{IOError, OutOfMemory}

-- the source failed, an allocation failed, or the content has no answer
pub data Kind : Type 0 where
  SourceFailure : Kind
  AllocationFailure : Kind
  Refusal : Kind

abbrev pub kind : ParseError → Kind
kind (IOError _) = SourceFailure
kind OutOfMemory = AllocationFailure
kind _ = Refusal

-- A failure of the source raises its count, and nothing else does. An error of the content means that it has no answer.
abbrev pub IsRefused : ℕ → ℕ → Bool → Type 0 → Kind → Type 0
IsRefused before now can_fail none SourceFailure = (before < now) × IsTrue can_fail
IsRefused before now can_fail none AllocationFailure = now ≡ before
IsRefused before now can_fail none Refusal = (now ≡ before) × none

-- an error has its reason, and an Ok leaves the count of failures
abbrev pub HasReason : {T : Type 0} → ℕ → ℕ → Bool → Type 0 → Result T ParseError → Type 0
HasReason before now can_fail none (Ok _) = now ≡ before
HasReason before now can_fail none (Err e) = IsRefused before now can_fail none (kind e)

-- an error that is no allocation failure
abbrev pub IsNoAllocationFailure : Kind → Type 0
IsNoAllocationFailure AllocationFailure = ⊥
IsNoAllocationFailure _ = Unit {0}

-- after an allocation failure the source is as it was
abbrev pub IsUnused : {S : Type 0} → Kind → S → S → Type 0
IsUnused AllocationFailure old new = new ≡ old
IsUnused _ old new = Unit {0}

-- the answer that the content gives, or an error; if the content's answer is an error, an error of any kind
abbrev pub IsAnswer :
    {T Y : Type 0} → (T → Y) → Result Y ParseError → Bool → ℕ → ℕ → Result T ParseError → Type 0
IsAnswer shown answer can_fail before now (Ok x) = (now ≡ before) × (answer ≡ Ok (shown x))
IsAnswer shown answer can_fail before now (Err e) = IsRefused before now can_fail (IsErr answer) (kind e)

-- ---- what an opening answers

-- as IsRefused, of a source that is dropped with the error; memory is allocated only for a file that opens
abbrev pub MayRefuse : Bool → Type 0 → Type 0 → Kind → Type 0
MayRefuse can_fail some none SourceFailure = IsTrue can_fail
MayRefuse can_fail some none AllocationFailure = some
MayRefuse can_fail some none Refusal = none

-- what the content gives, from a source that did not fail; or an error
abbrev pub IsOpeningOf :
    {T Y : Type 0} → (T → Y) → Result Y ParseError → Bool → ℕ → ℕ → Result T ParseError → Type 0
IsOpeningOf shown answer can_fail before now (Ok found) = (now ≡ before) × (answer ≡ Ok (shown found))
IsOpeningOf shown answer can_fail before now (Err e) = MayRefuse can_fail (IsOk answer) (IsErr answer) (kind e)
