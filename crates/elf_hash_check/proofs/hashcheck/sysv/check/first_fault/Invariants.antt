use Rattle.std.proofs.Common.{◌≡◌, ℕ, ◌<◌}
use Rattle.elf_hash_check.specs.Indexed.{chain_lengths}
use Rattle.elf_hash_check.specs.Reads.{count_after}
use Rattle.elf_hash_check.specs.SoundSysv.{EndsAt}
use Rattle.elf_hash_check.specs.WithSymbols.{sysv_with}
use Rattle.elf_parts.specs.SysvFind.{sysv_view}
use Rattle.elf_hash_check.proofs.hashcheck.sysv.check.first_fault.Given as goal

-- the chains so far end, their lengths add up to indexed, and a symbol was read for each index
abbrev pub invariant-loop-bucket : goal.invariant-loop-bucket
invariant-loop-bucket g l = record {
  sound : (b : ℕ) → b < l.bucket → (j : ℕ) × EndsAt (sysv_with l.table l.symtab l.strtab) b j;
  total : l.indexed ≡ chain_lengths (sysv_view l.table) l.bucket;
  reads : l.reads.count ≡ count_after l.fn.reads.count l.indexed;
}
