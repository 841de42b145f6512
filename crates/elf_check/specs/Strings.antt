-- Strings of a section (gABI, chapter "String Table").
use Rattle.std.specs.Prelude.{◌≡◌, ℕ, ◌-◌, List, length, slice_get, Some}

-- the last byte, if there is one, is 0
abbrev pub IsEmptyOrEndsWithNul : List ℕ → Type 0
IsEmptyOrEndsWithNul bytes = (last : ℕ) → slice_get bytes (length bytes - 1) ≡ Some last → last ≡ 0
