-- Lists: a line for each item, and a last line with their number.
use Rattle.std.specs.Prelude.{ℕ, ◌+◌, List, [], ◌∷◌, codes, length}
use Rattle.std.specs.Fmt.{decimal}
use Rattle.elfshow_lines.specs.Pieces.{◌⧺◌, newline}

-- the lines of items that are numbered from k
abbrev pub numbered_lines : {X : Type 0} → (ℕ → X → List ℕ) → ℕ → List X → List ℕ
numbered_lines line k [] = []
numbered_lines line k (x ∷ xs) = line k x ⧺ numbered_lines line (k + 1) xs

abbrev pub end_line : ℕ → List ℕ
end_line count = codes "end " ⧺ decimal count ⧺ newline

-- the lines of items that are numbered from 0, and how many they are
abbrev pub counted_lines : {X : Type 0} → (ℕ → X → List ℕ) → List X → List ℕ
counted_lines line xs = numbered_lines line 0 xs ⧺ end_line (length xs)
