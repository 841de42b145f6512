use Rattle.std.proofs.Common.{◌≡◌, OnOk, [], ◌∷◌, subst}
use Rattle.nugwier_layouts.specs.Members.{Members}
use Rattle.nugwier_report.specs.Said.{saying, states}
use Rattle.nugwier_notes.proofs.notes.tell_abi_tag.Goals as goal
use Rattle.nugwier_layouts.specs.Layouts.{constant}
use Rattle.nugwier_layouts.specs.declared.layouts.TheConstants as layout

pub returns : goal.returns
returns g c =
    subst (λ (members : Members). OnOk c.state.result (c.state.new.self ≡ saying g.T.Tell.one c.args.tell.now (states (constant layout.ABI_TAG_NOTE) members ∷ []))) c.abi_tag_members.ensures c.state.ensures
