use Rattle.std.proofs.Common.{◌≡◌, ◌-◌, suc, length, sum}
use Rattle.nugwier_dynamic.specs.Chains.{one_more}
use Rattle.nugwier_dynamic.proofs.chains.count_chain.Given as goal

-- the counts so far stand for the same chains
abbrev pub invariant-loop-counts : goal.invariant-loop-counts
invariant-loop-counts l =
    (sum l.counts.items ≡ sum l.initial.counts.items)
    × (one_more l.counts.items l.length ≡ one_more l.initial.counts.items l.length)

abbrev pub decreases-loop-counts : goal.decreases-loop-counts
decreases-loop-counts l = suc l.length - length l.counts.items
