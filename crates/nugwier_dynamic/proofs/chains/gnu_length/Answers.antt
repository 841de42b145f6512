use Rattle.std.proofs.Common.{◌≡◌, ◌∙◌, ◌+◌, ◌-◌, ap, sym, arith}
use Rattle.std.proofs.lemmas.Grind.{common_steps}
use Rattle.elf_records.specs.Number.{ok_map}
use Rattle.elf_records.specs.Table.{table_view}
use Rattle.nugwier_dynamic.proofs.ChainWalks.{exit_is, gnu_fault, gnu_next, longer}
use Rattle.nugwier_dynamic.proofs.chains.gnu_length.Goals as goal

pub loop-length-preserved : goal.loop-length-preserved
loop-length-preserved g c =
    let n = c.loop-length.length in
    let left = c.args.limit - n in
    let step = gnu_next (table_view c.args.chains.now) left (c.args.first + n) _ (omega arith) (sym c.in_ok-word.ensures) (grind (arith, common_steps)) in
    let less : left - 1 ≡ c.args.limit - (n + 1) = omega arith in
    let further : c.args.first + n + 1 ≡ c.args.first + (n + 1) = omega arith in
    let more = ap (ok_map (λ k. k + n)) (rw (less, further) at step) ∙ longer _ n in
    c.loop-length.invariant ∙ more

pub returns-in_err-word-clause-length : goal.returns-in_err-word-clause-length
returns-in_err-word-clause-length g c =
    let n = c.loop-length.length in
    let fault = c.in_err-word.field-0.0 in
    let here = gnu_fault (table_view c.args.chains.now) (c.args.limit - n) (c.args.first + n) fault (omega arith) (sym c.in_err-word.ensures) in
    exit_is c.from_residual.result fault c.from_residual.ensures.1
    ∙ sym (c.loop-length.invariant ∙ ap (ok_map (λ k. k + n)) here)
