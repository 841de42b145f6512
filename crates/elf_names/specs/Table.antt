-- Tables of names.
use Rattle.std.specs.Prelude.{ℕ, List, map}
use Rattle.std.specs.Borrow.{Bor}
use Rattle.elf_abi.specs.Names.{Row, row_of}

-- a table of the program
abbrev pub rows : {K : Type 0} → List (K × record { now : List ℕ }) → List (Row K)
rows table = map (λ row. (row.0, row.1.now)) table

-- the same, as a function returns it
abbrev pub rows_of : {K : Type 0} → List (K × Bor (List ℕ)) → List (Row K)
rows_of table = map row_of table
