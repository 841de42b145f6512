use Rattle.std.proofs.Common.{sym, arith}
use Rattle.elf_records.specs.Table.{table_view}
use Rattle.elf_hash_check.proofs.Reading.{word_inside}
use Rattle.elf_hash_check.proofs.hashcheck.named.behind_in_run.Goals as goal

pub overflow_add-result : goal.overflow_add-result
overflow_add-result g c =
    let inside = word_inside (table_view c.args.chains.now) c.saturating_sub-place.result c.in_ok-word.word c.words_read_below_count.ensures (sym c.in_ok-word.ensures) in
    omega (arith, inside, c.word_count.ensures.count, c.word_count.ensures.bound)
