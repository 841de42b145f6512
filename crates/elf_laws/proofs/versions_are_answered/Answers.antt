use Rattle.std.proofs.Common.{◌≡◌, Ok, Some, None, length, ap, arith}
use Rattle.std.specs.Option.{option_map}
use Rattle.elf_records.specs.Table.{table_items, table_len}
use Rattle.elf_records.specs.Symbol.{symbol_reads}
use Rattle.elf.specs.Answers.{dynamic_symbol_table, symbol_version_table}
use Rattle.elf_check.specs.versions.Views.{whole_versions}
use Rattle.elf_check.specs.Whole.{whole_symbols, whole_view}
use Rattle.elf_laws.proofs.Lines.{count_same}
use Rattle.elf_laws.proofs.SureFile.{sure_with}
use Rattle.elf_laws.proofs.SureLines.{versions_answered}
use Rattle.elf_laws.proofs.versions_are_answered.Goals as goal

pub returns-in-Some-dynamic_symbols : goal.returns-in-Some-dynamic_symbols
returns-in-Some-dynamic_symbols g c = λ header.
    let whole = whole_view g.E.EndianParse.little c.args.file.now in
    let v = whole_versions c.in-Some.versions in
    let s = whole_symbols c.in-Some-dynamic_symbols.symbols in
    let e : dynamic_symbol_table whole ≡ Ok (Some s) = c.in-Some-dynamic_symbols.ensures in
    let d : symbol_version_table whole ≡ Ok (Some v) = c.in-Some.ensures in
    let named = ap length c.iter.ensures.items in
    let whole_list = c.iter.ensures.all in
    let counted = count_same s.1 (table_items symbol_reads s.0) in
    let all : length (table_items symbol_reads s.0) ≡ table_len symbol_reads s.0 = omega (arith, named, whole_list, counted) in
    versions_answered header whole (Some s) (Some v) e d (sure_with whole s v c.len.result c.file.ensures.sound e d c.len.ensures.count c.len.ensures.readable all)

pub returns-in-None : goal.returns-in-None
returns-in-None g c = λ header.
    let whole = whole_view g.E.EndianParse.little c.args.file.now in
    let d : symbol_version_table whole ≡ Ok None = c.in-None.ensures in
    versions_answered header whole (option_map whole_symbols c.dynamic_symbols-in-None.result) None c.dynamic_symbols-in-None.ensures d tt
