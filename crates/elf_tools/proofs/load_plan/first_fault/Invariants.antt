use Rattle.elf_tools.specs.LoadPlan.{LoadableBefore}
use Rattle.elf_tools.proofs.load_plan.first_fault.Given as goal

-- each mapping so far is loadable
abbrev pub invariant-loop-place : goal.invariant-loop-place
invariant-loop-place l = LoadableBefore l.class l.len l.all l.place
