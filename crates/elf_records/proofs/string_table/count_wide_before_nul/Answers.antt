use Rattle.std.proofs.Common.{eqb, drop, take, w8, sym, ap, ◌∙◌, arith}
use Rattle.std.proofs.lemmas.Simd.{bitmask_splat, leading_from_mask_l, length-chunk, trailing_mask_l}
use lib.Count.{count_trailing_zeros}
use Rattle.elf_records.proofs.Nuls.{is_nul}
use Rattle.elf_records.proofs.string_table.count_wide_before_nul.Goals as goal

pub returns-then-mask-eq0 : goal.returns-then-mask-eq0
returns-then-mask-eq0 c =
    let v = take 64 (drop c.args.start c.args.bytes.now) in
    let long = length-chunk c.args.start 64 c.args.bytes.now c.requires in
    let is = bitmask_splat w8 eqb v 64 0 long (omega arith) in
    sym (leading_from_mask_l is_nul v (sym is ∙ c.if-mask-eq0.true) ∙ long)

pub returns-else-mask-eq0 : goal.returns-else-mask-eq0
returns-else-mask-eq0 c =
    let v = take 64 (drop c.args.start c.args.bytes.now) in
    let long = length-chunk c.args.start 64 c.args.bytes.now c.requires in
    let is = bitmask_splat w8 eqb v 64 0 long (omega arith) in
    ap (count_trailing_zeros 64) is ∙ trailing_mask_l is_nul 64 v (omega (arith, long)) (omega (arith, is, c.if-mask-eq0.false))
