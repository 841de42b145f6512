use Rattle.std.proofs.Common.{arith, sym, ◌∙◌, le-leb}
use Rattle.std.proofs.lemmas.Bool.Decides.{nat_tests}
use Rattle.elf_tools.proofs.Apart.{last_above, last_below, none_meets_any, none_up_to}
use Rattle.elf_tools.proofs.load_plan.meets_any.Goals as goal

pub returns-then-mapping-eq0 : goal.returns-then-mapping-eq0
returns-then-mapping-eq0 c = sym (none_meets_any c.args.mapping.now (let none = c.if-mapping-eq0.true in grind (arith, nat_tests, none)) c.args.ranges.now.entries)

pub returns-in-None : goal.returns-in-None
returns-in-None c =
    let some = c.if-mapping-eq0.false in
    let is = c.saturating_add-last.ensures in
    sym (none_up_to c.args.mapping.now c.saturating_add-last.result (grind (arith, nat_tests, some, is)) (λ n small behind. grind (arith, nat_tests, some, is, small, behind)) c.args.ranges.now.entries c.requires
    (sym (c.range.ensures.between tt) ∙ c.in-None.ensures.steps.0))

pub returns-then-address-mapping : goal.returns-then-address-mapping
returns-then-address-mapping c =
    let some = c.if-mapping-eq0.false in
    let is = c.saturating_add-last.ensures in
    let above = c.if-address-mapping.true in
    le-leb c.args.mapping.now.address c.in-Some.address.now above ∙ sym (last_above c.args.mapping.now c.saturating_add-last.result (grind (arith, nat_tests, some, is)) (λ n small behind. grind (arith, nat_tests, some, is, small, behind)) c.args.ranges.now.entries c.next_back.new.self _ c.requires
    (sym (c.range.ensures.between tt) ∙ c.in-Some.ensures.steps) above)

pub returns-else-address-mapping : goal.returns-else-address-mapping
returns-else-address-mapping c =
    let some = c.if-mapping-eq0.false in
    let is = c.saturating_add-last.ensures in
    let below = c.if-address-mapping.false in
    last_below c.args.mapping.now c.saturating_add-last.result (grind (arith, nat_tests, some, is)) (λ n small behind. grind (arith, nat_tests, some, is, small, behind)) c.args.ranges.now.entries c.next_back.new.self _ c.requires
    (sym (c.range.ensures.between tt) ∙ c.in-Some.ensures.steps) (grind (arith, nat_tests, below)) (grind (arith, nat_tests, some))
