use Rattle.std.proofs.Common.{◌≡◌, ℕ, ◌<◌, Some}
use Rattle.std.specs.Option.{IsSomeAnd}
use Rattle.elf_hash_check.specs.Reads.{count_after}
use Rattle.elf_hash_check.specs.SoundSysv.{Belongs, value}
use Rattle.elf_hash_check.specs.WithSymbols.{sysv_with}
use Rattle.elf_parts.specs.SysvFind.{sysv_view}
use Rattle.elf_hash_check.proofs.hashcheck.sysv.check.chain_length.Given as goal

-- index is the value at this place, the values before it belong to the bucket and are not 0, and a symbol was read for each
abbrev pub invariant-loop-place : goal.invariant-loop-place
invariant-loop-place g l = record {
  is : value (sysv_view l.table) l.bucket l.place ≡ Some l.index;
  before : (i : ℕ) → i < l.place → IsSomeAnd (value (sysv_view l.table) l.bucket i) (λ index. (0 < index) × Belongs (sysv_with l.table l.symtab l.strtab) l.bucket index);
  reads : l.reads.count ≡ count_after l.fn.reads.count l.place;
}
