use Rattle.std.proofs.Common.{◌≡◌, [], drop, sum}
use Rattle.nugwier_dynamic.specs.Chains.{counted_after}
use Rattle.nugwier_dynamic.proofs.chains.counted.Given as goal

-- the chains so far, and then those that are left, are all
abbrev pub invariant-loop-length : goal.invariant-loop-length
invariant-loop-length l =
    (sum l.counts.items ≡ l.length-index)
    × (counted_after l.counts.items (drop l.length-index l.lengths) ≡ counted_after [] l.lengths)
