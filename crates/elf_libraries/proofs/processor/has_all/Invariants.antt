use Rattle.std.proofs.Common.{◌≡◌, Bor, List, ℕ, drop, map}
use Rattle.elf_libraries.specs.Search.{folders_view}
use Rattle.elf_libraries.specs.Processor.{has_all}
use Rattle.elf_libraries.proofs.processor.has_all.Given as goal

-- each of the features so far is there
abbrev pub invariant-loop-feature : goal.invariant-loop-feature
invariant-loop-feature l =
    let shown : Bor (List ℕ) → List ℕ = λ feature. feature.now in
    has_all (folders_view l.features) (map shown (drop l.feature-index l.needed))
    ≡ has_all (folders_view l.features) (map shown l.needed)
