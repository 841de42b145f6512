-- The memory of mappings that share no address: ranges in ascending order, each an address and a size in bytes.
use Rattle.std.specs.Prelude.{ℕ, ◌+◌, ◌^◌, ◌<◌, ◌≤◌, List, [], ◌∷◌}

-- no range is empty, the first begins at this address or after it, and each ends before the next begins; addresses
-- have 64 bits
abbrev pub AreApart : ℕ → List (ℕ × ℕ) → Type 0
AreApart start [] = Unit {0}
AreApart start (range ∷ ranges) =
    (start ≤ range.0) × (range.0 < 2 ^ 64) × (0 < range.1) × AreApart (range.0 + range.1) ranges
