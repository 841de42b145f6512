use Rattle.std.proofs.Common.{◌≡◌, ◌∙◌, ◌+◌, ◌-◌, ap, sym, arith}
use Rattle.elf_records.specs.Number.{ok_map}
use Rattle.elf_records.specs.Table.{table_view}
use Rattle.nugwier_dynamic.proofs.ChainWalks.{exit_is, longer, sysv_fault, sysv_next}
use Rattle.nugwier_dynamic.proofs.chains.sysv_length.Goals as goal

pub loop-index-preserved : goal.loop-index-preserved
loop-index-preserved g c =
    let left = c.args.limit - c.loop-index.length in
    let step = sysv_next (table_view c.args.chains.now) left c.loop-index.index _ (omega arith) (omega arith) (sym c.in_ok-index.ensures) in
    let less : left - 1 ≡ c.args.limit - (c.loop-index.length + 1) = omega arith in
    let more = ap (ok_map (λ n. n + c.loop-index.length)) (rw less at step) ∙ longer _ c.loop-index.length in
    (omega arith, c.loop-index.invariant.1 ∙ more)

pub returns-in_err-index-clause-length : goal.returns-in_err-index-clause-length
returns-in_err-index-clause-length g c =
    let left = c.args.limit - c.loop-index.length in
    let fault = c.in_err-index.field-0.0 in
    let here = sysv_fault (table_view c.args.chains.now) left c.loop-index.index fault (omega arith) (omega arith) (sym c.in_err-index.ensures) in
    exit_is c.from_residual.result fault c.from_residual.ensures.1
    ∙ sym (c.loop-index.invariant.1 ∙ ap (ok_map (λ n. n + c.loop-index.length)) here)
