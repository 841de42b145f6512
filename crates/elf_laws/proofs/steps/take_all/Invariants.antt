use Rattle.std.specs.Prelude.{◌≤◌, take}
use Rattle.elf_laws.proofs.Taken.{Take}
use Rattle.elf_laws.proofs.steps.take_all.Given as goal

-- the steps so far were taken
abbrev pub invariant-loop-step : goal.invariant-loop-step
invariant-loop-step g l = Take g.E.EndianParse.little (take l.step-index l.steps) l.fn.stream l.stream l.refused × (l.refused ≤ l.step-index)
