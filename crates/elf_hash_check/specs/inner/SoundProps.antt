-- That a section is sound, and that its words can be read, is true in one way only: so a checked table can store it.
use Rattle.std.specs.Prelude.{◌≡◌, ℕ, ◌<◌, ◌≤◌, Option}
use Rattle.std.specs.Coded.{Coded-set, codes, le_prop, Π_prop}
use Rattle.std.specs.Option.{IsSomeAnd, IsSomeAnd-prop}
use Rattle.std.proofs.Common.{ap, subst, inl, inr, arith}
use Rattle.std.proofs.lemmas.Bool.{cases_lt}
use Rattle.elf_parts.specs.GnuFind.{GnuTable, ReadsBloom}
use Rattle.elf_parts.specs.Hash.{ReadsBelowCount}
use Rattle.elf_parts.specs.SysvFind.{SysvTable}
use Rattle.elf_hash_check.specs.SoundGnu.{SoundGnu}
use Rattle.elf_hash_check.specs.SoundSysv.{Belongs, EndsAt, SoundSysv}
use Rattle.elf_hash_check.specs.WithSymbols.{WithSymbols}

-- ---- GNU

-- the words of a table can be read, as they can if it was cut from a section
abbrev pub GnuReads : GnuTable → Type 0
GnuReads t = ReadsBelowCount t.buckets × ReadsBelowCount t.chains × ReadsBloom t

pub GnuReads-prop : (t : GnuTable) → IsProp (GnuReads t)
GnuReads-prop t = hlevel (le_prop, Coded-set, codes)

pub SoundGnu-prop : (s : WithSymbols GnuTable) → IsProp (SoundGnu s)
SoundGnu-prop s = hlevel (IsSomeAnd-prop, le_prop, Coded-set, codes)

-- ---- SysV

abbrev pub SysvReads : SysvTable → Type 0
SysvReads t = ReadsBelowCount t.buckets × ReadsBelowCount t.chains

pub SysvReads-prop : (t : SysvTable) → IsProp (SysvReads t)
SysvReads-prop t = hlevel (le_prop, Coded-set, codes)

EndsAt-prop : (s : WithSymbols SysvTable) (bucket j : ℕ) → IsProp (EndsAt s bucket j)
EndsAt-prop s bucket j = hlevel (IsSomeAnd-prop, le_prop, Coded-set, codes)

-- a chain does not end before its first 0
no_less : (s : WithSymbols SysvTable) (bucket j k : ℕ) → EndsAt s bucket j → EndsAt s bucket k → j ≤ k
no_less s bucket j k a b = elim (cases_lt k j) [
  | inr least ↦ least
  | inl less ↦
      let P : Option ℕ → Type 0 = λ v. IsSomeAnd v (λ index. (0 < index) × Belongs s bucket index) in
      let zero_there = subst P b.1 (a.2 k less) in
      absurd (omega (arith, zero_there.0))
]

pub same_end : (s : WithSymbols SysvTable) (bucket j k : ℕ) → EndsAt s bucket j → EndsAt s bucket k → j ≡ k
same_end s bucket j k a b = omega (arith, no_less s bucket j k a b, no_less s bucket k j b a)

-- at most one proof, where the number is determined
one_number : (P : ℕ → Type 0) → ((j : ℕ) → IsProp (P j)) → ((j k : ℕ) → P j → P k → j ≡ k) → IsProp ((j : ℕ) × P j)
one_number P prop same = λ x y.
    let M : ℕ → Type 0 = λ n. (r : P n) → ◌≡◌ {A = (j : ℕ) × P j} x (n, r) in
    subst M (same x.0 y.0 x.1 y.1) (λ r. ap (λ (t : P x.0). (x.0, t)) (prop x.0 x.1 r)) y.1

pub SoundSysv-prop : (s : WithSymbols SysvTable) → IsProp (SoundSysv s)
SoundSysv-prop s =
    Π_prop (λ bucket. Π_prop (λ _. one_number (EndsAt s bucket) (EndsAt-prop s bucket) (same_end s bucket)))
