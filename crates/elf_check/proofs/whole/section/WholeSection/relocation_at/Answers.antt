use Rattle.std.proofs.Common.{ℕ, ◌<◌, ap, sym, ◌∙◌, subst}
use Rattle.elf_records.specs.Number.{ok_map}
use Rattle.elf_records.specs.Symbol.{symbol_reads}
use Rattle.elf_records.specs.Table.{Table, table_get, table_len}
use Rattle.elf.specs.ElfBytes.{view}
use Rattle.elf.specs.ObjectFile.{object_file}
use Rattle.elf_check.specs.Whole.{whole_symbols}
use Rattle.elf_check.proofs.Linked.{object_sized, relocation_inside}
use Rattle.elf_check.proofs.whole.section.WholeSection.relocation_at.Goals as goal

pub unwrap-found-requires : goal.unwrap-found-requires
unwrap-found-requires g c =
    let whole = object_file g.E.EndianParse.little (view c.args.self.now.file.now) in
    let s = c.args.self.now.header in
    let reads = g.P.ParseAt.reads in
    let there = ap (λ (t : Table). table_get reads t c.args.index) (sym c.new-table.ensures) ∙ sym c.in-Ok.ensures in
    let inside = (relocation_inside reads g.P.Relocation.symbol_of whole (object_sized g.E.EndianParse.little (view c.args.self.now.file.now)) s c.data.result.0.now c.args.index c.in-Ok.relocation (whole_symbols c.in-Some.symbols)
    c.requires (ap (ok_map (λ found. found.0)) c.data.ensures) there c.in-Some.ensures) in
    c.get-in-Some.ensures.below.1 (subst (λ (n : ℕ). n < table_len symbol_reads (whole_symbols c.in-Some.symbols).0) (sym c.symbol.ensures) inside)
