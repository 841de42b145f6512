-- When linked records are sound: as many as are declared, and the last one has no next one.
use Rattle.std.specs.Prelude.{◌≡◌, ◌≢◌, ℕ, ◌+◌, ◌<◌, List, [], ◌∷◌, length, slice_get, take}
use Rattle.std.specs.Option.{IsSomeAnd}
use Rattle.std.specs.List.{AllByRecursion}
use Rattle.elf_check.specs.declared.faults.ChainFault.{ChainFault}
use Rattle.elf_check.specs.declared.faults.ChainFault.TheVariants.{At, NotLast, Short}

-- the distance that the last record gives, or d if there is none
abbrev pub last_distance : {A : Type 0} → (A → ℕ) → ℕ → List (ℕ × A) → ℕ
last_distance distance d [] = d
last_distance distance d (link ∷ after) = last_distance distance (distance link.1) after

-- how many bytes records take together, by what each one takes
abbrev pub total_extent : {A : Type 0} → (A → ℕ) → List (ℕ × A) → ℕ
total_extent extent [] = 0
total_extent extent (link ∷ after) = extent link.1 + total_extent extent after

module _ {A : Type 0} (distance : A → ℕ) (IsSound : ℕ × A → Type 0) where
  -- exactly this number of records, and each is sound; the last one says that there is no next one
  pub record SoundChain (count : ℕ) (list : List (ℕ × A)) : Type 0 where
    pub all : length list ≡ count
    pub ends : last_distance distance 0 list ≡ 0
    pub each : AllByRecursion IsSound list

  -- The faults, in the order in which they are looked for: each record, then their number, then that the last one is
  -- the last. Each case says that those before it are not there.
  abbrev pub IsTrueOfChain : ℕ → List (ℕ × A) → ChainFault → Type 0
  IsTrueOfChain count list (At index) =
      IsSomeAnd (slice_get list index) (λ link. ¬ IsSound link) × AllByRecursion IsSound (take index list)
  IsTrueOfChain count list (Short found) =
      AllByRecursion IsSound list × (length list ≡ found) × (found < count)
  IsTrueOfChain count list NotLast =
      AllByRecursion IsSound list × (length list ≡ count) × (last_distance distance 0 list ≢ 0)
