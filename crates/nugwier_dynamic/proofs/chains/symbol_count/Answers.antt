use Rattle.std.proofs.Common.{◌≡◌, ◌+◌, ◌<◌, ◌∙◌, ap, drop, get_or, length, sum, ℕ, List, arith}
use Rattle.std.proofs.lemmas.List.{drop_more}
use Rattle.std.proofs.lemmas.List.Sums.{sum_by-cons}
use Rattle.nugwier_dynamic.proofs.chains.symbol_count.Goals as goal

sum_next : (lengths : List ℕ) (i : ℕ) → i < length lengths → sum (drop i lengths) ≡ get_or lengths i 0 + sum (drop (i + 1) lengths)
sum_next lengths i less =
    ap (λ (ns : List ℕ). sum ns) (drop_more lengths i 0 less) ∙ sum_by-cons (λ (n : ℕ). n) (get_or lengths i 0) (drop (i + 1) lengths)

pub overflow_add-count : goal.overflow_add-count
overflow_add-count c =
    let step = sum_next c.args.lengths.now c.loop-length.length-index c.loop-length-test.true in
    omega (arith, step, c.loop-length.invariant, c.requires)

pub loop-length-preserved : goal.loop-length-preserved
loop-length-preserved c =
    let step = sum_next c.args.lengths.now c.loop-length.length-index c.loop-length-test.true in
    omega (arith, step, c.loop-length.invariant)
