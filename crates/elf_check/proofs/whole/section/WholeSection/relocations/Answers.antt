use Rattle.std.proofs.Common.{◌≡◌, ◌<◌, ◌^◌, length, Some, ap, sym, ◌∙◌, subst}
use Rattle.elf_records.specs.Number.{ok_map}
use Rattle.elf_records.specs.Table.{Table, table_items, table_view}
use Rattle.elf.specs.ElfBytes.{view}
use Rattle.elf.specs.ObjectFile.{object_file, table_of}
use Rattle.elf_check.specs.RelocationLists.{AllHaveSymbols, with_symbols}
use Rattle.elf_check.specs.Whole.{whole_symbols}
use Rattle.elf_check.proofs.Linked.{object_sized}
use Rattle.elf_check.proofs.Relocated.{section_has}
use Rattle.elf_check.proofs.whole.section.WholeSection.relocations.Goals as goal

pub returns-in-Some-clause-named : goal.returns-in-Some-clause-named
returns-in-Some-clause-named g c = λ linked.
    let whole = object_file g.E.EndianParse.little (view c.args.self.now.file.now) in
    let s = c.args.self.now.header in
    let bytes = c.data.result.0.now in
    let reads = g.P.ParseAt.reads in
    let symbol_of = g.P.Relocation.symbol_of in
    let symbols = whole_symbols c.in-Some.symbols in
    let table : table_view c.new-table.result ≡ table_of whole bytes = c.new-table.ensures in
    let short = subst (λ (t : Table). length t.bytes < 2 ^ 64) table c.len.ensures.short in
    let all = section_has reads symbol_of whole (object_sized g.E.EndianParse.little (view c.args.self.now.file.now)) s bytes symbols c.requires (ap (ok_map (λ found. found.0)) c.data.ensures) c.in-Some.ensures
    (λ i. c.list_is_what_get_gives.ensures (table_of whole bytes) i short) c.are_read.ensures in
    subst (λ xs. AllHaveSymbols xs) (sym (c.new.ensures ∙ ap (λ (t : Table). with_symbols symbol_of (Some symbols) (table_items reads t)) table)) all
