-- The names for which the small sound sections were built.
use Rattle.std.specs.Prelude.{ℕ, List, [], ◌∷◌, codes}

-- the symbols 0 to 3
abbrev pub sysv_built_names : List (List ℕ)
sysv_built_names = [] ∷ codes "exit" ∷ codes "a" ∷ codes "b" ∷ []

-- they were put in from the last one to the first
abbrev pub sysv_built_order : List ℕ
sysv_built_order = 1 ∷ 2 ∷ 3 ∷ []

-- the symbols 1 to 3: "a" and "c" belong to bucket 0, and "b" to bucket 1
abbrev pub gnu_built_names : List (List ℕ)
gnu_built_names = codes "a" ∷ codes "c" ∷ codes "b" ∷ []
