use Rattle.elf_records.specs.Table.{table_view}
use Rattle.elf_parts.proofs.HashWords.{words_read}
use Rattle.elf_parts.proofs.laws.find.words_read_below_count.Goals as goal

pub returns : goal.returns
returns g c = words_read (table_view c.args.words.now) c.len.ensures.short
