use Rattle.std.proofs.Common.{◌≡◌, ℕ, Option, None, subst}
use Rattle.elf_records.specs.declared.symbol.Symbol.{Symbol}
use Rattle.elf_hash_check.specs.Indexed.{IsLeastNamed}
use Rattle.elf_hash_check.specs.WithSymbols.{gnu_with}
use Rattle.elf_hash_check.proofs.AllNamed.{gnu_all}
use Rattle.elf_hash_check.proofs.GnuScan.{gnu_scan}
use Rattle.elf_hash_check.proofs.hashcheck.gnu.CheckedGnuHash.excludes.Goals as goal

pub returns-clause-none : goal.returns-clause-none
returns-clause-none g c = λ yes name same.
    let s = gnu_with c.args.self.now.table c.args.self.now.symtab c.args.self.now.strtab in
    let answer = gnu_scan s name c.args.self.now.sound c.args.self.now.readable in
    let nothing : answer.found ≡ None = cc (c.excludes.ensures.none yes s.symbols s.strings name same, answer.is) in
    let P : Option (ℕ × Symbol) → Type 0 = λ found. IsLeastNamed s name found in
    gnu_all s name c.args.self.now.sound c.args.self.now.readable None (subst P nothing answer.least)
