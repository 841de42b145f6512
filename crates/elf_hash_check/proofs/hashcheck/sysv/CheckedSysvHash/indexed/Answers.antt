use Rattle.std.proofs.Common.{ℕ, subst, sym}
use Rattle.elf_parts.specs.Hash.{word_count}
use Rattle.elf_hash_check.specs.Indexed.{IndexedSysv, IsNumberOf}
use Rattle.elf_hash_check.specs.WithSymbols.{sysv_with}
use Rattle.elf_hash_check.proofs.SysvCount.{number_of_chains}
use Rattle.elf_hash_check.proofs.hashcheck.sysv.CheckedSysvHash.indexed.Goals as goal

pub returns-clause-members : goal.returns-clause-members
returns-clause-members g c =
    let s = sysv_with c.args.self.now.table c.args.self.now.symtab c.args.self.now.strtab in
    let P : ℕ → Type 0 = λ n. IsNumberOf n (IndexedSysv s.table) in
    subst P (sym c.args.self.now.counted) (number_of_chains s (word_count s.table.buckets) c.args.self.now.sound)
