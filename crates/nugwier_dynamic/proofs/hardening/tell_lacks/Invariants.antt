use Rattle.std.proofs.Common.{◌≡◌, drop}
use Rattle.std.specs.List.{flat_map}
use Rattle.nugwier_report.specs.Said.{saying}
use Rattle.nugwier_dynamic.specs.Hardening.{lack_said}
use Rattle.nugwier_dynamic.proofs.hardening.tell_lacks.Given as goal

-- what was told so far, and then what is told of the requirements that are left, is the whole
abbrev pub invariant-loop-requirement : goal.invariant-loop-requirement
invariant-loop-requirement g l =
    let said = flat_map (lack_said l.hardening) in
    saying g.T.Tell.one l.tell (said (drop l.requirement-index l.requirements)) ≡ saying g.T.Tell.one l.initial.tell (said l.requirements)
