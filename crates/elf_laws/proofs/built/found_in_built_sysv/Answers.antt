use Rattle.std.proofs.Common.{ℕ, List, sym, subst}
use Rattle.elf_parts.specs.SysvFind.{SysvTable}
use Rattle.elf_hash_check.specs.Indexed.{IsFirstNamed}
use Rattle.elf_hash_check.specs.WithSymbols.{WithSymbols}
use Rattle.elf_laws.proofs.BuiltSound.{sysv_found, sysv_sound}
use Rattle.elf_laws.proofs.built.found_in_built_sysv.Goals as goal

pub returns-in-Ok-Sound : goal.returns-in-Ok-Sound
returns-in-Ok-Sound g c = λ names put s index e built member is.
    let verdict = rw (e, c.in-Ok-Sound.field-0-is) at c.in-Ok-Sound.ensures in
    let T : WithSymbols SysvTable → Type 0 = λ t. IsFirstNamed t c.args.name.now c.find.result in
    let N : List ℕ → Type 0 = λ n. IsFirstNamed s n c.find.result in
    let first : T s = subst T verdict.1 c.find.ensures in
    (sysv_found names put s built index member c.find.result (subst N (sym is) first), first)

pub returns-in-Ok-Faulty : goal.returns-in-Ok-Faulty
returns-in-Ok-Faulty g c = λ names put s index e built member is.
    let verdict = rw (e, c.in-Ok-Faulty.field-0-is) at c.in-Ok-Faulty.ensures in
    absurd (verdict.0 (sysv_sound names put s built))

pub returns-in-Err : goal.returns-in-Err
returns-in-Err g c = λ names put s index e built member is. let verdict = rw e at c.in-Err.ensures in absurd verdict
