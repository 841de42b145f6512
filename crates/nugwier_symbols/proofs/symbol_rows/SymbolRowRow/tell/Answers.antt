use Rattle.std.proofs.Common.{ℕ, Bool, List, [], ◌∷◌, ◌++◌, Option, ap, sym, ◌∙◌}
use Rattle.std.proofs.lemmas.Result.{on_ok_weaker}
use Rattle.std.specs.Prelude.{if◌then◌else◌}
use Rattle.std.specs.Option.{option_map}
use Rattle.std.specs.Result.{result_ok}
use Rattle.elf_records.specs.StringTable.{string_at}
use Rattle.nugwier_report.specs.Said.{Said, saying, states, unread}
use Rattle.nugwier_report.specs.declared.problem.Item.TheVariants.{SymbolName, SymbolVersion}
use Rattle.nugwier_report.specs.declared.problem.Place.{Place}
use Rattle.nugwier_report.proofs.Saying.{then_said}
use Rattle.nugwier_symbols.specs.SymbolRows.{form_view, shown_letter, symbol_layout, symbol_members, version_known, version_read}
use Rattle.nugwier_report.specs.SymbolVersion.{Version}
use Rattle.nugwier_symbols.specs.SymbolVersions.{version_view}
use Rattle.nugwier_symbols.proofs.symbol_rows.SymbolRowRow.tell.Goals as goal

pub returns : goal.returns
returns g c =
    let row = c.args.self.now in
    let old = c.args.tell.now in
    let manner = form_view row.form in
    let number = c.args.number in
    let symbol = c.args.symbol.now in
    let part = row.names.part in
    let name = string_at row.names.strings symbol.st_name in
    let version = version_read (option_map g.V.SymbolVersions.versions row.names.versions) number symbol in
    let name_place : Place = record { part = part; item = SymbolName number } in
    let version_place : Place = record { part = part; item = SymbolVersion number } in
    let told : Option (List ℕ) → Option Version → Said = λ n v. states (symbol_layout manner symbol) (symbol_members part number symbol n v (shown_letter manner symbol)) in
    let last = told (result_ok name) (version_known version) ∷ [] in
    let first = c.name.new.tell in
    let second = c.version.new.tell in
    let third = c.tell_symbol.new.tell in
    on_ok_weaker c.tell_symbol.result
    (λ h. then_said g.T.Tell.one old second third (unread name_place name ++ unread version_place version) last
    (then_said g.T.Tell.one old first second (unread name_place name) (unread version_place version) c.in_ok-name.ensures.wrong c.in_ok-version.ensures.wrong)
    (h ∙ ap (λ (n : Option (List ℕ)). saying g.T.Tell.one second (told n (option_map version_view c.in_ok-version.version) ∷ [])) c.in_ok-name.ensures.name
    ∙ ap (λ (v : Option Version). saying g.T.Tell.one second (told (result_ok name) v ∷ [])) c.in_ok-version.ensures.version)
    ∙ ap (λ (b : Bool). saying g.T.Tell.one old (if b then (unread name_place name ++ unread version_place version) ++ last else [])) (sym (sym c.lists.ensures ∙ c.if-not-lists.false)))
    c.tell_symbol.ensures
