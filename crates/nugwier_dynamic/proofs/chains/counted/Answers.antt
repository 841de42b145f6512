use Rattle.std.proofs.Common.{◌+◌, ◌∙◌, ap, sym, sum, drop, ℕ, List}
use Rattle.std.proofs.lemmas.List.{drop_more}
use Rattle.nugwier_dynamic.specs.Chains.{counted_after}
use Rattle.nugwier_dynamic.proofs.Counting.{chains_more}
use Rattle.nugwier_dynamic.proofs.chains.counted.Goals as goal

pub loop-length-preserved : goal.loop-length-preserved
loop-length-preserved c =
    let lengths = c.args.lengths.now in
    let i = c.loop-length.length-index in
    let counts = c.loop-length.counts.items in
    let step = drop_more lengths i _ c.loop-length-test.true in (
      ap (λ (ns : List ℕ). sum ns) c.in_ok-count_chain.ensures
          ∙ chains_more counts _ ∙ ap (λ (n : ℕ). n + 1) c.loop-length.invariant.0,
      ap (λ (ns : List ℕ). counted_after ns (drop (i + 1) lengths)) c.in_ok-count_chain.ensures
          ∙ sym (ap (λ (ns : List ℕ). counted_after counts ns) step) ∙ c.loop-length.invariant.1,
    )
