use Rattle.std.proofs.Common.{◌≡◌, ℕ, ◌<◌, Some}
use Rattle.elf_hash_check.specs.Reads.{count_after}
use Rattle.elf_hash_check.specs.SoundGnu.{SoundWord}
use Rattle.elf_hash_check.specs.WithSymbols.{gnu_with, word}
use Rattle.elf_hash_check.specs.inner.GnuRun.{RunBegins}
use Rattle.elf_parts.specs.GnuFind.{gnu_view}
use Rattle.elf_hash_check.proofs.hashcheck.gnu.check.first_fault.Given as goal

-- the chain words so far are sound, the run of the next one begins at start, and a symbol was read for each
abbrev pub invariant-loop-place : goal.invariant-loop-place
invariant-loop-place g l = record {
  sound : (k w : ℕ) → k < l.place → word (gnu_view l.table).chains k ≡ Some w → SoundWord (gnu_with l.table l.symtab l.strtab) k w;
  begins : RunBegins (gnu_view l.table) l.start l.place;
  reads : l.reads.count ≡ count_after l.fn.reads.count l.place;
}
