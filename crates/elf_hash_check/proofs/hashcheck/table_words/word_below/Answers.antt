use Rattle.std.proofs.Common.{sym}
use Rattle.elf_records.specs.Table.{table_view}
use Rattle.elf_hash_check.proofs.Reading.{word_there}
use Rattle.elf_hash_check.proofs.hashcheck.table_words.word_below.Goals as goal

pub returns-in-None-clause-value : goal.returns-in-None-clause-value
returns-in-None-clause-value g c =
    absurd (word_there (table_view c.args.words.now) c.args.index c.words_read_below_count.ensures c.requires (sym c.in-None.ensures))
