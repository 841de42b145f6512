use Rattle.std.proofs.Common.{ℕ, List, ap, ◌∙◌, ◌≤◌, length, subst, sym, arith, rules}
use Rattle.std.specs.Prelude.{position}
use Rattle.std.proofs.lemmas.List.{take_rest}
use Rattle.elf_records.proofs.Nuls.{NoneBefore, found_behind, found_here, is_nul, none_behind, none_here}
use Rattle.elf_records.proofs.string_table.first_nul.Goals as goal
use Rattle.elf_records.proofs.string_table.first_nul.Goals.{then-bytes-ge-LANES+else-count-lt-LANES, else-bytes-ge-LANES}

pub loop-start-init : goal.loop-start-init
loop-start-init c =
    let bytes = c.args.bytes.now in
    elim c.if-bytes-ge-LANES.branch [
      | then-bytes-ge-LANES+else-count-lt-LANES w ↦
          let none = none_here bytes 0 16 (omega arith) (λ k early. absurd (omega arith)) 16 (omega (arith, w.count_before_nul-count.ensures)) (omega arith) in
          subst (λ (start : ℕ). (start ≤ length bytes) × NoneBefore bytes start) (sym w.start-is) (omega arith, none)
      | else-bytes-ge-LANES w ↦
          subst (λ (start : ℕ). (start ≤ length bytes) × NoneBefore bytes start) (sym w.start-is) (omega arith, λ k early. absurd (omega arith))
    ]

pub returns-then-count-lt-WIDE : goal.returns-then-count-lt-WIDE
returns-then-count-lt-WIDE c =
    found_here c.args.bytes.now c.loop-start.start 64 (omega arith) c.loop-start.invariant.1 c.count_wide_before_nul-count.result c.count_wide_before_nul-count.ensures (omega arith)

pub loop-start-preserved : goal.loop-start-preserved
loop-start-preserved c =
    let few = c.count_wide_before_nul-count.ensures in
    (omega arith, none_here c.args.bytes.now c.loop-start.start 64 (omega arith) c.loop-start.invariant.1 64 (omega (arith, few)) (omega arith))

pub returns-in_err-count : goal.returns-in_err-count
returns-in_err-count c =
    let rest = ap (λ (xs : List ℕ). position is_nul xs) (take_rest c.args.bytes.now c.loop-start.start) in
    let all = none_behind c.args.bytes.now c.loop-start.start c.loop-start.invariant.0 c.loop-start.invariant.1 (c.in_err-count.ensures ∙ rest) in
    search (rules, all)

pub returns : goal.returns
returns c =
    let rest = ap (λ (xs : List ℕ). position is_nul xs) (take_rest c.args.bytes.now c.loop-start.start) in
    found_behind c.args.bytes.now c.loop-start.start c.loop-start.invariant.0 c.loop-start.invariant.1 c.in_ok-count.count (c.in_ok-count.ensures ∙ rest)
