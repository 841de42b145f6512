use Rattle.std.proofs.Common.{◌≡◌, ◌-◌, Some, ap, sym, ◌∙◌, arith, subst, get_or}
use Rattle.std.proofs.lemmas.Bool.Decides.{nat_tests}
use Rattle.std.specs.Prelude.{None}
use Rattle.std.specs.List.{last_or}
use Rattle.std.specs.Option.{option_map}
use Rattle.elf_tools.specs.Addresses.{nearest_of}
use Rattle.elf_tools.proofs.Places.{last_taken}
use Rattle.elf_tools.proofs.addresses.Addresses.find.Goals as goal

pub returns : goal.returns
returns c =
    let all = c.args.self.now in
    let address = c.args.address in
    let count = c.count_before-count.result in
    let one = c.index.result.now in
    let none = c.if-count-eq0.false in
    let last = ap (last_or None) c.count_before-count.ensures.first ∙ last_taken all count one (grind (arith, nat_tests, none)) c.count_before-count.ensures.bound in
    let there : one ≡ get_or all (count - 1) one = subst (λ l. one ≡ get_or l (count - 1) one) c.self.view_is c.index.ensures in
    ap Some c.nearest.ensures ∙ ap (option_map (nearest_of address)) (ap Some there ∙ sym last)
