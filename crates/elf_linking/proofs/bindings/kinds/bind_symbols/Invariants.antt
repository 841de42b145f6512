use Rattle.std.proofs.Common.{◌≡◌, ℕ, ◌<◌, length}
use Rattle.std.specs.Option.{IsSomeAnd, option_map}
use Rattle.std.specs.Prelude.{IfSome, slice_get}
use Rattle.elf_linking.specs.VersionedView.{versioned_view}
use Rattle.elf_linking.specs.SymbolBindings.{IsBoundBy}
use Rattle.elf_linking.proofs.bindings.kinds.bind_symbols.Given as goal

-- the symbols so far are bound
abbrev pub invariant-loop-place : goal.invariant-loop-place
invariant-loop-place g l =
    let view = versioned_view g.V.SymbolVersions.versions in
    let versions = option_map (λ table. g.V.SymbolVersions.versions table.now) l.versions in
    (length l.all.items ≡ l.place)
    × ((k : ℕ) → k < l.place → IfSome (slice_get l.symbols k)
    (λ one. IsSomeAnd (slice_get l.all.items k) (IsBoundBy view l.objects l.strings versions l.uses one)))
