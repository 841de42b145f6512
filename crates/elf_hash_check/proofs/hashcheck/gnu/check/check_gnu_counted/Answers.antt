use Rattle.std.proofs.Common.{ap, sym, ◌∙◌}
use Rattle.elf_parts.specs.GnuFind.{gnu_view}
use Rattle.elf_parts.specs.Hash.{word_count}
use Rattle.elf_records.specs.Table.{Table}
use Rattle.elf_hash_check.proofs.hashcheck.gnu.check.check_gnu_counted.Goals as goal

pub invariant_of-result : goal.invariant_of-result
invariant_of-result g c = record {
  sound = c.in-None.ensures.verdict;
  readable = c.words_can_be_read.ensures.gnu _ c.args.class (gnu_view c.in_ok-table.table) (sym c.in_ok-table.ensures);
  counted = c.word_count-indexed.ensures.count ∙ ap (λ (t : Table). word_count t) c.chains.ensures;
}
