use Rattle.std.proofs.Common.{rules, arith}
use Rattle.std.proofs.lemmas.Bool.Decides.{nat_tests}
use Rattle.elf_tools.specs.LoadPlan.{meets}
use Rattle.elf_tools.proofs.Apart.{any_of_one_more, one_more_apart}
use Rattle.elf_tools.proofs.load_plan.add.Goals as goal

pub returns-in-Ok-clause-apart : goal.returns-in-Ok-clause-apart
returns-in-Ok-clause-apart c =
    let some = c.if-mapping-eq0.false in
    rw c.in-Ok.ensures.entries (one_more_apart c.args.mapping.now (grind (arith, nat_tests, some)) (search rules) 0 c.args.ranges.now.entries (omega arith) c.requires.apart c.requires.new)

pub returns-in-Ok-clause-added : goal.returns-in-Ok-clause-added
returns-in-Ok-clause-added c =
    let some = c.if-mapping-eq0.false in
    λ m. rw c.in-Ok.ensures.entries (any_of_one_more c.args.mapping.now (grind (arith, nat_tests, some)) (search rules) (meets m) 0 c.args.ranges.now.entries c.requires.apart c.requires.new)
