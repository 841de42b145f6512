use Rattle.std.proofs.Common.{◌≡◌, ◌==◌, ◌++◌, ◌-◌, false, sym, ap, ◌∙◌, arith, drop, subst}
use Rattle.std.proofs.lemmas.Bool.Decides.{nat_tests}
use Rattle.std.proofs.lemmas.List.{append_assoc}
use Rattle.elf_libraries.specs.Search.{expansion_after, sequence, tokens_view}
use Rattle.elf_libraries.proofs.Expanding.{replaces_first}
use Rattle.elf_libraries.proofs.search.expand_first.Goals as goal

pub returns : goal.returns
returns c =
    let tokens = tokens_view c.args.substitutions.now in
    let bytes = c.args.bytes.now in
    let old = c.args.text.now.items in
    let test = c.if-skip-gt0.false in
    let none : c.args.skip ≡ 0 = grind (arith, nat_tests, test) in
    let length = c.sequence-first.ensures.length in
    let value = c.sequence-first.ensures.value in
    let some = c.if-first-eq0.false in
    let is_some : (c.sequence-first.result.length == 0) ≡ false = grind (arith, nat_tests, some) in
    let found = subst (λ n. (n == 0) ≡ false) length is_some in
    let left = expansion_after tokens ((sequence tokens bytes).length - 1) (drop 1 bytes) in
    ap (λ k. old ++ expansion_after tokens k bytes) none
    ∙ ap (λ l. old ++ l) (replaces_first tokens bytes c.requires found)
    ∙ sym (append_assoc old (sequence tokens bytes).value left)
    ∙ ap (λ v. old ++ v ++ left) (sym value)
    ∙ ap (λ l. l ++ left) (sym c.in_ok-extend_from_slice.ensures.items)
    ∙ ap (λ k. c.extend_from_slice.new.self.items ++ expansion_after tokens (k - 1) (drop 1 bytes)) (sym length)
