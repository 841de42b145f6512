use Rattle.std.proofs.Common.{ℕ, ap, ◌∙◌}
use Rattle.std.specs.Option.{option_map}
use Rattle.std.specs.Result.{result_ok}
use Rattle.elf_records.specs.Table.{table_items, table_view}
use Rattle.elf_check.specs.RelocationLists.{symbol_in}
use Rattle.elf_check.specs.Whole.{named_view, whole_symbols}
use Rattle.elf_check.proofs.Relocated.{next_relocation}
use Rattle.elf_check.proofs.whole.relocations.WholeRelocationsIterator.next.Goals as goal

pub returns-clause-steps : goal.returns-clause-steps
returns-clause-steps g c =
    let s = c.args.self.now in
    let t = table_view s.table in
    let symbols = option_map whole_symbols s.symbols in
    let here = c.list_is_what_get_gives.ensures t s.next c.len.ensures.short ∙ ap result_ok c.record_below-relocation.ensures in
    next_relocation g.P.Relocation.symbol_of symbols (table_items g.P.ParseAt.reads t) s.next c.record_below-relocation.result (option_map named_view c.symbol_in-symbol.result) here
    (c.symbol_in-symbol.ensures ∙ ap (λ (i : ℕ). symbol_in symbols i) c.symbol.ensures)
