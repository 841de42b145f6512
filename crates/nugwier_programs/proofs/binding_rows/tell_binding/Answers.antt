use Rattle.std.proofs.Common.{◌≡◌, OnOk, [], ◌∷◌, subst}
use Rattle.std.specs.Option.{option_copied}
use Rattle.nugwier_programs.specs.BindingRows.{binding_members, bound_view, target_view}
use Rattle.nugwier_layouts.specs.Members.{Members}
use Rattle.nugwier_report.specs.Said.{saying, states}
use Rattle.nugwier_programs.proofs.binding_rows.tell_binding.Goals as goal
use Rattle.nugwier_layouts.specs.Layouts.{Layout, layout_of}

pub returns : goal.returns
returns g c =
    let said = binding_members (bound_view c.args.symbol.now) (option_copied c.args.reference) (target_view c.args.target.now) in
    subst (λ (k : Layout). OnOk c.state.result (c.state.new.self ≡ saying g.T.Tell.one c.args.tell.now (states k said ∷ []))) c.layout.ensures
    (subst (λ (m : Members). OnOk c.state.result (c.state.new.self ≡ saying g.T.Tell.one c.args.tell.now (states (layout_of c.layout.result.now) m ∷ []))) c.binding_members-members.ensures c.state.ensures)
