use Rattle.std.proofs.Common.{◌≡◌, ◌+◌, drop, sum}
use Rattle.nugwier_dynamic.proofs.chains.symbol_count.Given as goal

-- the symbols so far, and then those of the chains that are left, are all
abbrev pub invariant-loop-length : goal.invariant-loop-length
invariant-loop-length l = l.count + sum (drop l.length-index l.lengths) ≡ sum l.lengths
