-- Members of a table, by their index.
use Rattle.std.specs.Prelude.{◌≡◌, ℕ, ◌<◌, Result, Ok}
use Rattle.std.specs.Result.{IsOkAnd}
use Rattle.elf_records.specs.declared.parse.ParseError.{ParseError}

-- each member that can be read is sound
abbrev pub AllSound : {A : Type 0} → (ℕ → Result A ParseError) → (A → Type 0) → Type 0
AllSound {A} at IsSound = (i : ℕ) (x : A) → at i ≡ Ok x → IsSound x

-- each member below an index that can be read is sound
abbrev pub SoundBelow : {A : Type 0} → (ℕ → Result A ParseError) → (A → Type 0) → ℕ → Type 0
SoundBelow {A} at IsSound n = (k : ℕ) (x : A) → k < n → at k ≡ Ok x → IsSound x

-- the member at an index has this fault, and all before it are sound
pub record IsFirstFault {A F : Type 0} (at : ℕ → Result A ParseError) (IsSound : A → Type 0) (IsTrueOf : A → F → Type 0)
    (index : ℕ) (fault : F) : Type 0 where
  pub true : IsOkAnd (at index) (λ x. IsTrueOf x fault)
  pub before : SoundBelow at IsSound index
