use Rattle.std.proofs.Common.{◌≡◌, ℕ, ◌<◌, length}
use Rattle.std.specs.Option.{IsSomeAnd}
use Rattle.std.specs.Prelude.{IfSome, slice_get}
use Rattle.elf_linking.specs.Resolver.{HaveTables, IsTable}
use Rattle.elf_linking.proofs.resolver.tables.Given as goal

-- the libraries so far have their tables
abbrev pub invariant-loop-library : goal.invariant-loop-library
invariant-loop-library g l =
    (length l.tables.items ≡ l.library)
    × ((k : ℕ) → k < l.library → IfSome (slice_get l.files k) (λ file. IsSomeAnd (slice_get l.tables.items k) (IsTable g.E.EndianParse.little file)))
    × HaveTables g.E.EndianParse.little l.files l.library
