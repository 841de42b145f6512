-- What private contracts of the checker say of a section that is checked in part.
use Rattle.std.specs.Prelude.{◌≡◌, ℕ, ◌-◌, ◌%◌, ◌<◌, ◌≤◌, Some}
use Rattle.std.specs.Option.{IsSomeAnd}
use Rattle.elf_parts.specs.GnuFind.{GnuTable}
use Rattle.elf_hash_check.specs.WithSymbols.{word}

-- the run that place k is in begins at a place: no chain word from there up to k ends a run, and the one before it
-- does
abbrev pub RunBegins : GnuTable → ℕ → ℕ → Type 0
RunBegins t start k =
    (start ≤ k) × ((j v : ℕ) → start ≤ j → j < k → word t.chains j ≡ Some v → v % 2 ≡ 0)
    × (0 < start → IsSomeAnd (word t.chains (start - 1)) (λ v. v % 2 ≡ 1))
