use Rattle.std.proofs.Common.{[], ◌∷◌, ap, ◌∙◌}
use Rattle.std.proofs.lemmas.Result.{on_ok_weaker}
use Rattle.nugwier_layouts.specs.Layouts.{constant}
use Rattle.nugwier_layouts.specs.Members.{Members}
use Rattle.nugwier_layouts.specs.declared.layouts.TheConstants as layout
use Rattle.nugwier_report.specs.Said.{saying, states}
use Rattle.nugwier_sections.proofs.header.tell_header.Goals as goal

pub returns : goal.returns
returns g c =
    on_ok_weaker c.state.result
    (λ h. h ∙ ap (λ (m : Members). saying g.T.Tell.one c.args.tell.now (states (constant layout.FILE_HEADER) m ∷ [])) c.header_members.ensures)
    c.state.ensures
