-- The symbols that lie in chains, by their lengths.
use Rattle.std.specs.Prelude.{ℕ, ◌*◌, ◌+◌, List, [], ◌∷◌}

-- how many lie in chains of length n or more
abbrev pub symbols_in : ℕ → List ℕ → ℕ
symbols_in n [] = 0
symbols_in n (c ∷ counts) = n * c + symbols_in (n + 1) counts
