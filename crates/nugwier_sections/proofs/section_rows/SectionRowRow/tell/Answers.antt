use Rattle.std.proofs.Common.{[], ◌∷◌, ap, ◌∙◌}
use Rattle.std.proofs.lemmas.Result.{on_ok_weaker}
use Rattle.nugwier_layouts.specs.Members.{Members}
use Rattle.nugwier_report.specs.Said.{saying, states}
use Rattle.nugwier_report.proofs.Saying.{then_said}
use Rattle.nugwier_sections.specs.SectionRows.{name_read, name_unread, section_members}
use Rattle.nugwier_sections.proofs.section_rows.SectionRowRow.tell.Goals as goal
use Rattle.nugwier_layouts.specs.Layouts.{constant}
use Rattle.nugwier_layouts.specs.declared.layouts.TheConstants as layout

pub returns : goal.returns
returns g c =
    let row = c.args.self.now in
    let number = c.args.number in
    let section = c.args.section.now in
    let mid = c.section_name.new.tell in
    let members = section_members row.machine number section in
    on_ok_weaker c.state.result
    (λ h. then_said g.T.Tell.one c.args.tell.now mid c.state.new.self (name_unread row.names number section) (states (constant layout.SECTION) (members (name_read row.names section)) ∷ []) c.in_ok-name.ensures.wrong
    (h ∙ ap (λ (m : Members). saying g.T.Tell.one mid (states (constant layout.SECTION) m ∷ [])) (c.section_members.ensures ∙ ap members c.in_ok-name.ensures.name)))
    c.state.ensures
