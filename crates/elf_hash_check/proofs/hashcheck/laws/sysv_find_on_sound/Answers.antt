use Rattle.std.proofs.Common.{ℕ, Option, Result, sym, subst}
use Rattle.std.specs.Result.{IsOkAnd}
use Rattle.elf_records.specs.declared.parse.ParseError.{ParseError}
use Rattle.elf_records.specs.declared.symbol.Symbol.{Symbol}
use Rattle.elf_hash_check.specs.Indexed.{IsFirstNamed}
use Rattle.elf_hash_check.proofs.SysvScan.{sysv_scan}
use Rattle.elf_hash_check.proofs.hashcheck.laws.sysv_find_on_sound.Goals as goal

pub returns : goal.returns
returns c = λ little class s name cut sound.
    let answer = sysv_scan s name sound (c.words_can_be_read.ensures.sysv little class s.table cut) in
    let P : Result (Option (ℕ × Symbol)) ParseError → Type 0 = λ r. IsOkAnd r (IsFirstNamed s name) in
    subst P (sym answer.is) answer.first
