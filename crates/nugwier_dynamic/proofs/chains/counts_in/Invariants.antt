use Rattle.std.proofs.Common.{◌≡◌, ◌+◌, ◌++◌, drop}
use Rattle.nugwier_dynamic.specs.Chains.{counts_from}
use Rattle.nugwier_dynamic.specs.inner.Chains.{symbols_in}
use Rattle.nugwier_dynamic.proofs.chains.counts_in.Given as goal

-- the counts so far, and then those of the lengths that are left, are all
abbrev pub invariant-loop-buckets : goal.invariant-loop-buckets
invariant-loop-buckets l =
    let left = drop l.buckets-index l.counts in
    (l.length ≡ l.buckets-index)
    × (l.symbols + symbols_in l.buckets-index left ≡ symbols_in 0 l.counts)
    × (l.rows.items ++ counts_from l.buckets-index l.symbols left ≡ counts_from 0 0 l.counts)
