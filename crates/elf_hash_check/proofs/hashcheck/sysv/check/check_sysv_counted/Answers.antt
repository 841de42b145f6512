use Rattle.std.proofs.Common.{sym}
use Rattle.elf_parts.specs.SysvFind.{sysv_view}
use Rattle.elf_hash_check.proofs.hashcheck.sysv.check.check_sysv_counted.Goals as goal

pub invariant_of-result : goal.invariant_of-result
invariant_of-result g c = record {
  sound = c.in-Ok.ensures.verdict.0;
  readable = c.words_can_be_read.ensures.sysv _ c.args.class (sysv_view c.in_ok-table.table) (sym c.in_ok-table.ensures);
  counted = c.in-Ok.ensures.verdict.1;
}
