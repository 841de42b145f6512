use Rattle.std.proofs.Common.{◌≡◌, ℕ, List, ap, refl, subst, sym, ◌∙◌}
use Rattle.std.proofs.lemmas.Result.{on_ok_weaker}
use Rattle.std.specs.List.{enumerate_from}
use Rattle.std.specs.Option.{option_map}
use Rattle.std.specs.Prelude.{OnOk}
use Rattle.elf_records.specs.Symbol.{symbol_reads}
use Rattle.elf_records.specs.Table.{table_items, table_view}
use Rattle.elf_records.specs.declared.symbol.Symbol.{Symbol}
use Rattle.nugwier_symbols.specs.SymbolRows.{form_view, symbol_said}
use Rattle.nugwier_report.specs.Said.{Said, numbered, saying}
use Rattle.nugwier_symbols.specs.declared.symbol_options.SymbolOrder.{SymbolOrder}
use Rattle.nugwier_symbols.proofs.Ordered.{by_key_ordered, numbered_rows}
use Rattle.nugwier_symbols.proofs.symbols.tell_rows.Goals as goal
use Rattle.nugwier_symbols.specs.Symbols.{IsOrdered}

-- in the order of the table, the number of a symbol is its place
pub returns-in-Table : goal.returns-in-Table
returns-in-Table g c =
    let one = g.T.Tell.one in
    let old = c.args.tell.now in
    let row = c.args.row.now in
    let versions = option_map g.V.SymbolVersions.versions row.names.versions in
    let said : ℕ → Symbol → List Said = symbol_said (form_view row.form) row.names.part row.names.strings versions in
    let symbols = table_items symbol_reads (table_view c.args.table.now) in
    let all = enumerate_from 0 symbols in
    let read : OnOk c.tell_records.result (c.tell_records.new.tell ≡ saying one old (numbered said 0 symbols)) = rw c.iter.ensures.items at c.tell_records.ensures in
    on_ok_weaker c.tell_records.result
    (λ h. (all, subst (λ (order : SymbolOrder). IsOrdered order all all) (sym c.in-Table.is ∙ c.order-order.ensures) refl, h ∙ ap (saying one old) (sym (numbered_rows said 0 0 symbols))))
    read

-- in another order they come with their numbers
pub returns-in_ok-rows-in-Value : goal.returns-in_ok-rows-in-Value
returns-in_ok-rows-in-Value g c =
    let one = g.T.Tell.one in
    let old = c.args.tell.now in
    let row = c.args.row.now in
    let versions = option_map g.V.SymbolVersions.versions row.names.versions in
    let said : ℕ → Symbol → List Said = symbol_said (form_view row.form) row.names.part row.names.strings versions in
    let all = enumerate_from 0 (table_items symbol_reads (table_view c.args.table.now)) in
    let rows = c.in_ok-rows-in-Value.rows.items in
    on_ok_weaker c.tell_slice.result
    (λ h. (
      rows,
      by_key_ordered (form_view row.form) c.order-order.result all rows c.order-order.ensures c.in-Value.is c.in_ok-rows-in-Value.ensures,
      h ∙ ap (λ (shown : List (ℕ × Symbol)). saying one old (numbered (λ i (other : ℕ × Symbol). said other.0 other.1) 0 shown)) c.as_slice.ensures.value,
    ))
    c.tell_slice.ensures
