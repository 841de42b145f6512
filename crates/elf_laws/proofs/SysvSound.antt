-- The small SysV sections with a fault.
use Rattle.std.proofs.Common.{◌≢◌, ℕ, [], Some, refl, lit≤, arith}
use Rattle.std.specs.Option.{IsSomeAnd}
use Rattle.elf_hash_check.proofs.SysvVerdicts.{true_fault}
use Rattle.elf_hash_check.specs.Faults.{IsTrueOfSysv}
use Rattle.elf_hash_check.specs.SoundSysv.{value}
use Rattle.elf_hash_check.specs.WithSymbols.{WithSymbols}
use Rattle.elf_hash_check.specs.declared.hashcheck.HashFault.{HashFault}
use Rattle.elf_hash_check.specs.declared.hashcheck.HashFault.TheVariants.{Endless, PastChains, Unreadable, WrongBucket}
use Rattle.elf_parts.specs.SysvFind.{SysvTable}
use Rattle.elf_laws.proofs.Below.{below_five, below_three, below_two, some_other, suc_other}
use Rattle.elf_laws.proofs.KnownBytes.{known_bytes}
use Rattle.elf_laws.specs.Files.{in_four}
use Rattle.elf_laws.specs.SoundSections.{HasSysvFault, sysv_with}

-- value i of a bucket's chain is not 0
abbrev IsOther : WithSymbols SysvTable → ℕ → ℕ → Type 0
IsOther s bucket i = value s.table bucket i ≢ Some 0

-- ---- a section is not sound if a fault is true of it

with_fault : (s : WithSymbols SysvTable) (fault : HashFault) → IsTrueOfSysv s fault → HasSysvFault fault s
with_fault s fault h = (λ sound. true_fault s sound fault h, h)

pub has_endless : HasSysvFault (Endless 0) (sysv_with 8 (in_four 1))
unfolding known_bytes
has_endless =
    with_fault (sysv_with 8 (in_four 1)) (Endless 0)
    (lit≤ tt, λ j most. below_five (λ i. IsSomeAnd (value (sysv_with 8 (in_four 1)).table 0 i) (λ index. index ≢ 0)) (suc_other 0) (suc_other 2) (suc_other 0) (suc_other 2) (suc_other 0) j (omega (arith, most)))

pub has_past_chains : HasSysvFault (PastChains 0 3) (sysv_with 8 [])
unfolding known_bytes
has_past_chains =
    with_fault (sysv_with 8 []) (PastChains 0 3)
    ((lit≤ tt, (1, (lit≤ tt, refl, λ i most. below_two (IsOther (sysv_with 8 []) 0) (some_other 0) (some_other 2) i (omega (arith, most))))), lit≤ tt)

pub has_unreadable : HasSysvFault (Unreadable 3) (sysv_with 11 (in_four 0))
unfolding known_bytes
has_unreadable =
    with_fault (sysv_with 11 (in_four 0)) (Unreadable 3)
    ((0, (lit≤ tt, (1, (lit≤ tt, refl, λ i most. below_two (IsOther (sysv_with 11 (in_four 0)) 0) (some_other 0) (some_other 2) i (omega (arith, most)))))), refl)

pub has_wrong_bucket : HasSysvFault (WrongBucket 0 2) (sysv_with 8 (in_four 2))
unfolding known_bytes
has_wrong_bucket =
    with_fault (sysv_with 8 (in_four 2)) (WrongBucket 0 2)
    ((lit≤ tt, (2, (lit≤ tt, refl, λ i most. below_three (IsOther (sysv_with 8 (in_four 2)) 0) (some_other 0) (some_other 2) (some_other 1) i (omega (arith, most))))), suc_other 0)
