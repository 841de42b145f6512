use Rattle.std.proofs.Common.{ℕ, List, sym, subst}
use Rattle.elf_parts.specs.GnuFind.{GnuTable}
use Rattle.elf_hash_check.specs.Indexed.{IsLeastNamed}
use Rattle.elf_hash_check.specs.WithSymbols.{WithSymbols}
use Rattle.elf_laws.proofs.BuiltSound.{gnu_found, gnu_sound}
use Rattle.elf_laws.proofs.built.found_in_built_gnu.Goals as goal

pub returns-in-Ok-Sound : goal.returns-in-Ok-Sound
returns-in-Ok-Sound g c = λ names s k e built below is.
    let verdict = rw (e, c.in-Ok-Sound.field-0-is) at c.in-Ok-Sound.ensures in
    let T : WithSymbols GnuTable → Type 0 = λ t. IsLeastNamed t c.args.name.now c.find.result in
    let N : List ℕ → Type 0 = λ n. IsLeastNamed s n c.find.result in
    let least : T s = subst T verdict.1 c.find.ensures in
    (gnu_found names s built k below c.find.result (subst N (sym is) least), least)

pub returns-in-Ok-Faulty : goal.returns-in-Ok-Faulty
returns-in-Ok-Faulty g c = λ names s k e built below is.
    let verdict = rw (e, c.in-Ok-Faulty.field-0-is) at c.in-Ok-Faulty.ensures in
    absurd (verdict.0 (gnu_sound names s built))

pub returns-in-Err : goal.returns-in-Err
returns-in-Err g c = λ names s k e built below is. let verdict = rw e at c.in-Err.ensures in absurd verdict
