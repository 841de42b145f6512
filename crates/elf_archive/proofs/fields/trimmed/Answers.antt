use Rattle.std.proofs.Common.{◌≡◌, ◌<◌, ◌-◌, ◌==◌, false, take, length, get_or, ap, arith}
use Rattle.std.specs.List.{suffix_len}
use Rattle.std.proofs.lemmas.List.Sums.{suffix_len_is}
use Rattle.std.proofs.lemmas.Bool.Decides.{nat_tests}
use Rattle.elf_archive.proofs.fields.trimmed.Goals.{then-loop-end-test+else-field-end, else-loop-end-test}
use Rattle.elf_archive.proofs.fields.trimmed.Goals as goal

pub returns : goal.returns
returns c =
    let fill = c.args.fill in
    let field = c.args.field.now in
    let n = c.loop-end.end in
    let within = c.loop-end.invariant.within in
    let before : 0 < n → (get_or field (n - 1) 0 == fill) ≡ false =
    elim c.loop-end-test.branch [
      | then-loop-end-test+else-field-end w ↦ λ some. (let apart = w.if-field-end.false in grind (arith, nat_tests, apart))
      | else-loop-end-test w ↦ λ some. absurd (let none = w.loop-end-test.false in grind (arith, nat_tests, none, some))
    ] in
    let many : suffix_len (λ b. b == fill) field ≡ length field - n = suffix_len_is (λ b. b == fill) field n 0 within c.loop-end.invariant.others before in
    let same : n ≡ length field - suffix_len (λ b. b == fill) field = omega (arith, many, within) in
    ap (λ k. take k field) same
