-- Text that is written into a place piece by piece.
use Rattle.std.specs.Prelude.{◌≡◌, ℕ, ◌+◌, ◌&&◌, Bool, true, nat_le, List, [], ◌∷◌, ◌++◌, length}
use Rattle.elf_abi.specs.Names.{Row}
use Rattle.elf_c.specs.Texts.{over}

-- after a text of this length these bytes were written, up to this end, as far as the place has room
abbrev pub IsWritten : ℕ → List ℕ → List ℕ → List ℕ → ℕ → Type 0
IsWritten index bytes old new end =
    (end ≡ index + length bytes)
    × ((text place : List ℕ) → length text ≡ index → old ≡ over text place → new ≡ over (text ++ bytes) place)

-- no template is long
abbrev pub are_short : List (Row ℕ) → Bool
are_short [] = true
are_short (row ∷ rows) = nat_le (length row.1) 128 && are_short rows
