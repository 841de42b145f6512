use Rattle.elf_records.specs.Table.{table_view}
use Rattle.elf_records.specs.StringTable.{strings_view}
use Rattle.elf_check.proofs.Named.{named_items}
use Rattle.elf_check.proofs.whole.symbols.WholeSymbols.iter.Goals as goal

pub returns-clause-names : goal.returns-clause-names
returns-clause-names g c =
    let s = c.args.self.now in
    let t = table_view s.symbols in
    named_items s.sections t (strings_view s.strings) (λ i. c.list_is_what_get_gives.ensures t i c.len.ensures.short) s.sound
