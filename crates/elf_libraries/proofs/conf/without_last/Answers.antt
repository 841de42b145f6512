use Rattle.std.proofs.Common.{◌≡◌, ◌<◌, ◌-◌, false, take, length, get_or, ap, sym, ◌∙◌, arith}
use Rattle.std.specs.List.{suffix_len}
use Rattle.std.proofs.lemmas.List.Sums.{suffix_len_is}
use Rattle.std.proofs.lemmas.Bool.Decides.{nat_tests}
use Rattle.elf_libraries.specs.Conf.{is_in}
use Rattle.elf_libraries.proofs.conf.without_last.Goals.{then-loop-end-test+else-is_in, else-loop-end-test}
use Rattle.elf_libraries.proofs.conf.without_last.Goals as goal

pub returns : goal.returns
returns c =
    let set = c.args.set.now in
    let bytes = c.args.bytes.now in
    let n = c.loop-end.end in
    let within = c.loop-end.invariant.within in
    let before : 0 < n → is_in set (get_or bytes (n - 1) 0) ≡ false =
    elim c.loop-end-test.branch [
      | then-loop-end-test+else-is_in w ↦ λ some. sym w.is_in.ensures ∙ w.if-is_in.false
      | else-loop-end-test w ↦ λ some. absurd (let none = w.loop-end-test.false in grind (arith, nat_tests, none, some))
    ] in
    let many : suffix_len (is_in set) bytes ≡ length bytes - n = suffix_len_is (is_in set) bytes n 0 within c.loop-end.invariant.others before in
    let same : n ≡ length bytes - suffix_len (is_in set) bytes = omega (arith, many, within) in
    ap (λ k. take k bytes) same
