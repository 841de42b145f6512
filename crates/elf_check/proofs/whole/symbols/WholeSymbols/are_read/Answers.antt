use Rattle.elf_records.specs.StringTable.{strings_view}
use Rattle.elf_records.specs.Table.{table_view}
use Rattle.elf_check.proofs.Relocated.{named_read}
use Rattle.elf_check.proofs.whole.symbols.WholeSymbols.are_read.Goals as goal

pub returns : goal.returns
returns g c =
    let s = c.args.self.now in
    named_read s.sections (table_view s.symbols) (strings_view s.strings) c.len.ensures.short s.sound
