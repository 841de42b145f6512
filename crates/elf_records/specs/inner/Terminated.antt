-- Where the last string of a table of strings ends.
use Rattle.std.specs.Prelude.{◌≡◌, ℕ, ◌-◌, ◌<◌, ◌≤◌, List, length, slice_index}

-- no byte from this place on is 0
abbrev pub NoneFrom : List ℕ → ℕ → Type 0
NoneFrom bytes n = (k : ℕ) → n ≤ k → k < length bytes → (slice_index bytes k ≡ 0 → ⊥)

-- the first n bytes end with the last 0; n is 0 if no byte is 0
abbrev pub IsTerminated : List ℕ → ℕ → Type 0
IsTerminated bytes n = (n ≤ length bytes) × (0 < n → slice_index bytes (n - 1) ≡ 0) × NoneFrom bytes n
