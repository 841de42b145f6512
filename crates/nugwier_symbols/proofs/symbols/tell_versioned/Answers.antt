use Rattle.std.proofs.Common.{◌≡◌, rules, sym, ◌∙◌, length}
use Rattle.std.proofs.lemmas.List.FromFn.{length-enumerate_from}
use Rattle.std.specs.Option.{option_map}
use Rattle.elf.specs.Answers.{symbols_view}
use Rattle.elf_parts.specs.gnu_symver.Table.{Versions, versions_view}
use Rattle.elf_records.specs.Number.{ok_map}
use Rattle.elf_records.specs.Symbol.{symbol_reads}
use Rattle.elf_records.specs.Table.{table_items, table_view}
use Rattle.nugwier_symbols.specs.SymbolRows.{form_view}
use Rattle.nugwier_symbols.proofs.Ordered.{versioned_told}
use Rattle.nugwier_symbols.proofs.symbols.tell_versioned.Goals as goal
use Rattle.nugwier_symbols.specs.Symbols.{rows_of}
use Rattle.nugwier_report.specs.Reading.{if_read}

-- that the versions cannot be read, the heading, and the rows
pub returns : goal.returns
returns g c =
    let table = table_view c.args.symbols.0 in
    let found = ok_map (option_map versions_view) c.args.versions in
    let count : c.len.result ≡ length (rows_of table) = c.len.ensures.count ∙ sym c.iter_gives_len_records.ensures ∙ sym (length-enumerate_from 0 (table_items symbol_reads table)) in
    let same : option_map (λ (v : Versions). v) c.in_ok-versions-2.versions ≡ if_read found = search rules in
    versioned_told g.T.Tell.one (form_view c.args.form) c.args.part found (option_map (λ (v : Versions). v) c.in_ok-versions-2.versions) (symbols_view c.args.symbols) c.new.result c.len.result
    c.args.tell.now c.known_versions.new.tell c.tell_heading.new.tell c.tell_rows.new.tell c.tell_rows.result
    count same c.new.ensures c.in_ok-versions.ensures.wrong c.in_ok-tell_heading.ensures c.tell_rows.ensures
