use Rattle.std.proofs.Common.{◌∷◌, [], List, ap, ◌∙◌}
use Rattle.std.proofs.lemmas.Result.{on_ok_weaker}
use Rattle.nugwier_dynamic.specs.HardeningRows.{hardening_members, paths_view, row_members}
use Rattle.nugwier_layouts.specs.Members.{Members}
use Rattle.nugwier_report.specs.Said.{Said, saying, states}
use Rattle.nugwier_report.proofs.Saying.{then_said}
use Rattle.nugwier_dynamic.proofs.hardening_rows.tell_hardening.Goals as goal
use Rattle.nugwier_layouts.specs.Layouts.{constant}
use Rattle.nugwier_layouts.specs.declared.layouts.TheConstants as layout

pub returns : goal.returns
returns g c =
    let one = g.T.Tell.one in
    let old = c.args.tell.now in
    let hardening = c.args.hardening.now in
    let paths = paths_view c.args.paths in
    let row : Members → List Said = λ members. states (constant layout.HARDENED_FILE) members ∷ [] in
    let object : Members → List Said = λ members. states (constant layout.HARDENING) members ∷ [] in
    on_ok_weaker c.state-2.result
    (λ h. then_said one old c.state.new.self c.state-2.new.self (row (row_members c.args.path.now hardening paths)) (object (hardening_members hardening paths))
    (c.in_ok-state.ensures ∙ ap (λ (members : Members). saying one old (row members)) c.row_members.ensures)
    (h ∙ ap (λ (members : Members). saying one c.state.new.self (object members)) c.hardening_members.ensures))
    c.state-2.ensures
