use Rattle.elf_hash_check.proofs.SysvFirst.{one_count}
use Rattle.elf_hash_check.proofs.hashcheck.laws.one_count_at_a_sysv_fault.Goals as goal

pub returns : goal.returns
returns c = one_count
