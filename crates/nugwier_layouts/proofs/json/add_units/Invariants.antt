use Rattle.std.proofs.Common.{drop}
use Rattle.std.specs.List.{flat_map}
use Rattle.elfshow_lines.proofs.Adding.{Leads}
use Rattle.nugwier_layouts.specs.Json.{unit_escape}
use Rattle.nugwier_layouts.proofs.json.add_units.Given as goal

-- what was added so far, and then what is left, is the whole
abbrev pub invariant-loop-unit : goal.invariant-loop-unit
invariant-loop-unit g l =
    let text = flat_map unit_escape in
    Leads (g.W.Write.contents l.initial.out) l.initial.lines (g.W.Write.contents l.out) l.lines
    (text (drop l.unit-index l.units)) (text l.units)
