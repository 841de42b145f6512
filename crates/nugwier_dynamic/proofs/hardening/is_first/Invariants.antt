use Rattle.std.proofs.Common.{◌≡◌, List, ℕ, drop, map, Bor}
use Rattle.nugwier_dynamic.specs.Hardening.{is_named}
use Rattle.nugwier_dynamic.proofs.hardening.is_first.Given as goal

-- none so far is the name
abbrev pub invariant-loop-pair : goal.invariant-loop-pair
invariant-loop-pair l =
    let name : Bor (List ℕ) × Bor (List ℕ) → List ℕ = λ pair. pair.0.now in
    is_named l.strings l.symbol (map name (drop l.pair-index l.pairs)) ≡ is_named l.strings l.symbol (map name l.pairs)
