-- Linked records: each one gives the place of the next one.
use Rattle.std.specs.Prelude.{◌≡◌, ◌≤◌, ⊤, length, take, ℕ, zero, suc}
use Rattle.std.specs.Prelude.{Option, Some, None, List, [], ◌∷◌, Result, Ok, Err}
use Rattle.elf_records.specs.declared.parse.ParseError.{ParseError}

-- the list from an offset on, if there is one
abbrev pub from_next : {X : Type 0} → Option ℕ → (ℕ → List X) → List X
from_next (Some o) list = list o
from_next None list = []

-- ---- `gives` reads at an offset, and `follow` gives the offset of the next one, if there is one

-- a record and those after it, if it was read
abbrev pub links_from : {A : Type 0} → (ℕ → A → Option ℕ) → ℕ → Result A ParseError → (ℕ → List (ℕ × A)) → List (ℕ × A)
links_from follow o (Ok x) behind = (o, x) ∷ from_next (follow o x) behind
links_from follow o (Err e) behind = []

-- the records with their offsets: the first is at `start`, each later one at the offset that the one before it gives,
-- up to one that has no next one or that cannot be read, and no more than the count
abbrev pub links : {A : Type 0} → (ℕ → Result A ParseError) → (ℕ → A → Option ℕ) → ℕ → ℕ → List (ℕ × A)
links gives follow zero start = []
links gives follow (suc count) start = links_from follow start (gives start) (links gives follow count)

-- what the list has to be, without a count of steps: the first record begins at the place, each is the one that is read
-- at its offset, and the next one begins at the offset that it gives
abbrev pub AreLinked : {A : Type 0} → (ℕ → Result A ParseError) → (ℕ → A → Option ℕ) → Option ℕ → List (ℕ × A) → Type 0
AreLinked gives follow place [] = ⊤
AreLinked gives follow place (link ∷ behind) =
    (place ≡ Some link.0) × (gives link.0 ≡ Ok link.1) × AreLinked gives follow (follow link.0 link.1) behind

-- of all linked records from `start` on, at most `count`, these are the most: any others are the front of these
abbrev pub AreLongest : {A : Type 0} → (ℕ → Result A ParseError) → (ℕ → A → Option ℕ) → ℕ → ℕ → List (ℕ × A) → Type 0
AreLongest {A = A} gives follow count start list =
    AreLinked gives follow (Some start) list × (length list ≤ count)
    × ((others : List (ℕ × A)) → AreLinked gives follow (Some start) others → length others ≤ count →
    others ≡ take (length others) list)
