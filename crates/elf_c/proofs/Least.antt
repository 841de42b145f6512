-- On a sound section a look-up succeeds, and finds the least or the first index with the name.
use Rattle.std.proofs.Common.{◌≡◌, ℕ, refl, sym, subst, ◌∙◌, List, Option, Result, Ok, Err, IfOk}
use Rattle.std.specs.Result.{IsOkAnd}
use Rattle.elf_parts.specs.GnuFind.{GnuTable, gnu_find}
use Rattle.elf_parts.specs.SysvFind.{SysvTable, sysv_find}
use Rattle.elf_records.specs.Table.{Table}
use Rattle.elf_records.specs.Record.{◌>>=◌}
use Rattle.elf_records.specs.declared.parse.ParseError.{ParseError}
use Rattle.elf_records.specs.declared.symbol.Symbol.{Symbol}
use Rattle.elf_hash_check.specs.Indexed.{IsFirstNamed, IsLeastNamed}
use Rattle.elf_hash_check.specs.SoundGnu.{SoundGnu}
use Rattle.elf_hash_check.specs.SoundSysv.{SoundSysv}
use Rattle.elf_hash_check.specs.WithSymbols.{WithSymbols, with_symbols}
use Rattle.elf_c.specs.Find.{found_shown}
use Rattle.elf_c.specs.Sound.{FindsFirst, FindsLeast}
use Rattle.elf_c.specs.Status.{done, status_of, written}
use Rattle.elf_c.specs.declared.find.NugwierFound.{NugwierFound}
use Rattle.elf_c.specs.declared.status.NugwierStatus.{NugwierStatus}

of_answer : (s : WithSymbols GnuTable) (name : List ℕ) (answer : Result (Option (ℕ × Symbol)) ParseError)
    (old : NugwierFound) → IsOkAnd answer (IsLeastNamed s name) →
    (status_of answer ≡ done)
    × ((one : Option (ℕ × Symbol)) × IsLeastNamed s name one × (written found_shown old answer ≡ found_shown one))
of_answer s name (Ok one) old least = (refl, (one, least, refl))
of_answer s name (Err e) old least = absurd least

pub finds_least : (r : Result GnuTable ParseError) (symbols : Table) (strings name : List ℕ)
    (answer : Result (Option (ℕ × Symbol)) ParseError) (old found : NugwierFound) (status : NugwierStatus) →
    ((s : WithSymbols GnuTable) → r ≡ Ok s.table → SoundGnu s →
    IsOkAnd (gnu_find s.table s.symbols s.strings name) (IsLeastNamed s name)) →
    answer ≡ (r >>= λ t. gnu_find t symbols strings name) → status ≡ status_of answer →
    found ≡ written found_shown old answer →
    IfOk (with_symbols symbols strings r) (λ s. FindsLeast s name status found)
finds_least (Err e) symbols strings name answer old found status law same s-is f-is = tt
finds_least (Ok t) symbols strings name answer old found status law same s-is f-is = λ sound.
    let s : WithSymbols GnuTable = record { table = t; symbols = symbols; strings = strings } in
    let P : Result (Option (ℕ × Symbol)) ParseError → Type 0 = λ r. IsOkAnd r (IsLeastNamed s name) in
    let got = of_answer s name answer old (subst P (sym same) (law s refl sound)) in
    (s-is ∙ got.0, (got.1.0, got.1.1, f-is ∙ got.1.2))

of_first : (s : WithSymbols SysvTable) (name : List ℕ) (answer : Result (Option (ℕ × Symbol)) ParseError)
    (old : NugwierFound) → IsOkAnd answer (IsFirstNamed s name) →
    (status_of answer ≡ done)
    × ((one : Option (ℕ × Symbol)) × IsFirstNamed s name one × (written found_shown old answer ≡ found_shown one))
of_first s name (Ok one) old first = (refl, (one, first, refl))
of_first s name (Err e) old first = absurd first

pub finds_first : (r : Result SysvTable ParseError) (symbols : Table) (strings name : List ℕ)
    (answer : Result (Option (ℕ × Symbol)) ParseError) (old found : NugwierFound) (status : NugwierStatus) →
    ((s : WithSymbols SysvTable) → r ≡ Ok s.table → SoundSysv s →
    IsOkAnd (sysv_find s.table s.symbols s.strings name) (IsFirstNamed s name)) →
    answer ≡ (r >>= λ t. sysv_find t symbols strings name) → status ≡ status_of answer →
    found ≡ written found_shown old answer →
    IfOk (with_symbols symbols strings r) (λ s. FindsFirst s name status found)
finds_first (Err e) symbols strings name answer old found status law same s-is f-is = tt
finds_first (Ok t) symbols strings name answer old found status law same s-is f-is = λ sound.
    let s : WithSymbols SysvTable = record { table = t; symbols = symbols; strings = strings } in
    let P : Result (Option (ℕ × Symbol)) ParseError → Type 0 = λ r. IsOkAnd r (IsFirstNamed s name) in
    let got = of_first s name answer old (subst P (sym same) (law s refl sound)) in
    (s-is ∙ got.0, (got.1.0, got.1.1, f-is ∙ got.1.2))
