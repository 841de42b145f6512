use Rattle.std.proofs.Common.{[], ◌∷◌, ap, ◌∙◌}
use Rattle.std.proofs.lemmas.Result.{on_ok_weaker}
use Rattle.std.specs.Option.{option_copied, option_map}
use Rattle.nugwier_layouts.specs.Members.{Members}
use Rattle.nugwier_report.specs.Said.{saying, states}
use Rattle.nugwier_symbols.specs.SymbolRows.{form_view, shown_letter, symbol_members}
use Rattle.nugwier_symbols.specs.SymbolVersions.{version_view}
use Rattle.nugwier_symbols.proofs.symbol_rows.tell_symbol.Goals as goal
use Rattle.nugwier_layouts.specs.Layouts.{Layout, layout_of}

pub returns : goal.returns
returns g c =
    let old = c.args.tell.now in
    let symbol = c.args.symbol.now in
    let members = symbol_members c.args.part c.args.number symbol (option_copied c.args.name) (option_map version_view c.args.version) in
    on_ok_weaker c.state.result
    (λ h. h ∙ ap (λ (m : Members). saying g.T.Tell.one old (states (layout_of c.layout-layout.result.now) m ∷ [])) (c.symbol_members-members.ensures ∙ ap members c.letter-letter.ensures)
    ∙ ap (λ (k : Layout). saying g.T.Tell.one old (states k (members (shown_letter (form_view c.args.form) symbol)) ∷ [])) c.layout-layout.ensures)
    c.state.ensures
