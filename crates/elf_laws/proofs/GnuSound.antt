-- The small GNU sections with a fault.
use Rattle.std.proofs.Common.{◌≡◌, ◌%◌, refl, lit≤, arith}
use Rattle.elf_parts.specs.GnuFind.{GnuTable}
use Rattle.elf_hash_check.proofs.GnuVerdicts.{true_fault}
use Rattle.elf_hash_check.specs.Faults.{IsTrueOfGnu}
use Rattle.elf_hash_check.specs.SoundGnu.{HasBothBits, InRun, RunsTo}
use Rattle.elf_hash_check.specs.WithSymbols.{WithSymbols}
use Rattle.elf_hash_check.specs.declared.hashcheck.HashFault.{HashFault}
use Rattle.elf_hash_check.specs.declared.hashcheck.HashFault.TheVariants.{NoBloomBit, NotInRun, ShiftTooLarge}
use Rattle.elf_hash_check.specs.declared.hashcheck.HashFault.TheVariants.{Unreadable}
use Rattle.elf_hash_check.specs.declared.hashcheck.HashFault.TheVariants.{WrongHash}
use Rattle.elf_laws.proofs.KnownBytes.{known_bytes}
use Rattle.elf_laws.specs.SoundSections.{HasGnuFault, gnu_with}

-- ---- what two of the faulty ones have not

no_bits : HasBothBits (gnu_with 3 5 0x40 0x06 0x09).table 0x2b607 → ⊥
unfolding known_bytes
no_bits h = let one : 0 ≡ 1 = h.1.0 in omega (arith, one)

no_run : InRun (gnu_with 3 5 0xc0 0x07 0x09).table 1 0x2b608 → ⊥
unfolding known_bytes
no_run h =
    let run : RunsTo (gnu_with 3 5 0xc0 0x07 0x09).table 1 1 = h.1 in
    let even : 0x2b607 % 2 ≡ 0 = run.2 0 0x2b607 (lit≤ tt) (lit≤ tt) refl in
    omega (arith, even)

-- ---- a section is not sound if a fault is true of it

with_fault : (s : WithSymbols GnuTable) (fault : HashFault) → IsTrueOfGnu s fault → HasGnuFault fault s
with_fault s fault h = (λ sound. true_fault s sound fault h, h)

pub has_shift : HasGnuFault ShiftTooLarge (gnu_with 3 32 0xc0 0x06 0x09)
has_shift = with_fault (gnu_with 3 32 0xc0 0x06 0x09) ShiftTooLarge (lit≤ tt)

pub has_unreadable : HasGnuFault (Unreadable 2) (gnu_with 8 5 0xc0 0x06 0x09)
unfolding known_bytes
has_unreadable = with_fault (gnu_with 8 5 0xc0 0x06 0x09) (Unreadable 2) (lit≤ tt, (1, refl, refl))

pub has_wrong_hash : HasGnuFault (WrongHash 2) (gnu_with 3 5 0xc0 0x06 0x0b)
unfolding known_bytes
has_wrong_hash = with_fault (gnu_with 3 5 0xc0 0x06 0x0b) (WrongHash 2)
    (lit≤ tt, (1, refl, λ e. absurd (omega (arith, e))))

pub has_no_bloom_bit : HasGnuFault (NoBloomBit 3) (gnu_with 3 5 0x40 0x06 0x09)
unfolding known_bytes
has_no_bloom_bit = with_fault (gnu_with 3 5 0x40 0x06 0x09) (NoBloomBit 3) (lit≤ tt, (2, refl, (refl, no_bits)))

pub has_not_in_run : HasGnuFault (NotInRun 2) (gnu_with 3 5 0xc0 0x07 0x09)
unfolding known_bytes
has_not_in_run = with_fault (gnu_with 3 5 0xc0 0x07 0x09) (NotInRun 2)
    (lit≤ tt, (1, refl, (refl, (lit≤ tt, (refl, refl)), no_run)))
