use Rattle.std.proofs.Common.{◌∷◌, [], ap, sym, ◌∙◌}
use Rattle.std.proofs.lemmas.Result.{on_ok_weaker}
use Rattle.nugwier_notes.specs.Properties.{property_layout, property_members}
use Rattle.nugwier_layouts.specs.Members.{Members}
use Rattle.nugwier_report.specs.Said.{saying, states}
use Rattle.nugwier_notes.proofs.properties.tell_property.Goals as goal
use Rattle.nugwier_layouts.specs.Layouts.{Layout, constant}
use Rattle.nugwier_layouts.specs.declared.layouts.TheConstants as layout

pub returns-in-Some : goal.returns-in-Some
returns-in-Some g c =
    let old = c.args.tell.now in
    let members = property_members c.args.file c.args.part c.args.note c.args.property c.args.number in
    on_ok_weaker c.state.result
    (λ h. h ∙ ap (λ (m : Members). saying g.T.Tell.one old (states (constant layout.NUMBER_PROPERTY) m ∷ [])) c.property_members-members.ensures
    ∙ ap (λ (k : Layout). saying g.T.Tell.one old (states k members ∷ [])) (sym (ap property_layout c.in-Some.is)))
    c.state.ensures

pub returns-in-None : goal.returns-in-None
returns-in-None g c =
    let old = c.args.tell.now in
    let members = property_members c.args.file c.args.part c.args.note c.args.property c.args.number in
    on_ok_weaker c.state-in-None.result
    (λ h. h ∙ ap (λ (m : Members). saying g.T.Tell.one old (states (constant layout.PROPERTY) m ∷ [])) c.property_members-members.ensures
    ∙ ap (λ (k : Layout). saying g.T.Tell.one old (states k members ∷ [])) (sym (ap property_layout c.in-None.is)))
    c.state-in-None.ensures
