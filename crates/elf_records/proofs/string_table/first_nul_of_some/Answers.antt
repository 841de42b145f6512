use Rattle.std.proofs.Common.{ℕ, List, ap, ◌∙◌, arith, rules}
use Rattle.std.specs.Prelude.{position}
use Rattle.std.proofs.lemmas.List.{take_rest}
use Rattle.elf_records.proofs.Nuls.{found_behind, found_here, is_nul, none_behind, none_here}
use Rattle.elf_records.proofs.string_table.first_nul_of_some.Goals as goal

pub returns-then-count-lt-LANES : goal.returns-then-count-lt-LANES
returns-then-count-lt-LANES c =
    found_here c.args.bytes.now c.loop-start.start 16 (omega arith) c.loop-start.invariant.1 c.count_before_nul-count.result c.count_before_nul-count.ensures (omega arith)

pub loop-start-preserved : goal.loop-start-preserved
loop-start-preserved c =
    let few = c.count_before_nul-count.ensures in
    (omega arith, none_here c.args.bytes.now c.loop-start.start 16 (omega arith) c.loop-start.invariant.1 16 (omega (arith, few)) (omega arith))

pub returns-in_err-count : goal.returns-in_err-count
returns-in_err-count c =
    let rest = ap (λ (xs : List ℕ). position is_nul xs) (take_rest c.args.bytes.now c.loop-start.start) in
    let all = none_behind c.args.bytes.now c.loop-start.start c.loop-start.invariant.0 c.loop-start.invariant.1 (c.in_err-count.ensures ∙ rest) in
    search (rules, all)

pub returns : goal.returns
returns c =
    let rest = ap (λ (xs : List ℕ). position is_nul xs) (take_rest c.args.bytes.now c.loop-start.start) in
    found_behind c.args.bytes.now c.loop-start.start c.loop-start.invariant.0 c.loop-start.invariant.1 c.in_ok-count.count (c.in_ok-count.ensures ∙ rest)
