use Rattle.std.proofs.Common.{◌≡◌, Option, ℕ, subst}
use Rattle.elf_records.specs.declared.symbol.Symbol.{Symbol}
use Rattle.elf_hash_check.specs.Indexed.{IsFirstNamed}
use Rattle.elf_hash_check.specs.WithSymbols.{sysv_with}
use Rattle.elf_hash_check.proofs.SysvScan.{sysv_scan}
use Rattle.elf_hash_check.proofs.hashcheck.sysv.CheckedSysvHash.find.Goals as goal

pub returns-in-Ok : goal.returns-in-Ok
returns-in-Ok g c =
    let s = sysv_with c.args.self.now.table c.args.self.now.symtab c.args.self.now.strtab in
    let answer = sysv_scan s c.args.name.now c.args.self.now.sound c.args.self.now.readable in
    let same : answer.found ≡ c.in-Ok.found = cc (c.in-Ok.ensures, answer.is) in
    let P : Option (ℕ × Symbol) → Type 0 = λ found. IsFirstNamed s c.args.name.now found in
    subst P same answer.first

pub returns-in-Err : goal.returns-in-Err
returns-in-Err g c =
    let s = sysv_with c.args.self.now.table c.args.self.now.symtab c.args.self.now.strtab in
    let answer = sysv_scan s c.args.name.now c.args.self.now.sound c.args.self.now.readable in
    absurd (cc (c.in-Err.ensures, answer.is))
