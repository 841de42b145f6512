-- What each fault says of a section.
use Rattle.std.specs.Prelude.{◌≡◌, ◌≢◌, ℕ, ◌+◌, ◌/◌, ◌%◌, ◌<◌, ◌≤◌, List, None}
use Rattle.std.specs.Option.{IsSomeAnd}
use Rattle.elf_parts.specs.GnuFind.{GnuTable}
use Rattle.elf_parts.specs.Hash.{gnu_hash_of, sysv_hash_of, word_count}
use Rattle.elf_parts.specs.SysvFind.{SysvTable}
use Rattle.elf_hash_check.specs.SoundGnu.{HasBothBits, InRun}
use Rattle.elf_hash_check.specs.SoundSysv.{Visits, value}
use Rattle.elf_hash_check.specs.WithSymbols.{WithSymbols, symbol_and_name, word}
use Rattle.elf_hash_check.specs.declared.hashcheck.HashFault.{HashFault}
use Rattle.elf_hash_check.specs.declared.hashcheck.HashFault.TheVariants.{Endless, NoBloomBit, NotInRun, PastChains}
use Rattle.elf_hash_check.specs.declared.hashcheck.HashFault.TheVariants.{ShiftTooLarge, Unreadable, WrongBucket}
use Rattle.elf_hash_check.specs.declared.hashcheck.HashFault.TheVariants.{WrongHash}

module _ (s : WithSymbols SysvTable) where
  -- the chain of a bucket visits an index
  abbrev pub Reaches : ℕ → ℕ → Type 0
  Reaches bucket index = (bucket < word_count s.table.buckets) × ((j : ℕ) × Visits s.table bucket j index)

  abbrev pub IsTrueOfSysv : HashFault → Type 0
  IsTrueOfSysv (Endless bucket) =
      (bucket < word_count s.table.buckets)
      × ((j : ℕ) → j ≤ word_count s.table.chains → IsSomeAnd (value s.table bucket j) (λ index. index ≢ 0))
  IsTrueOfSysv (PastChains bucket index) = Reaches bucket index × (word_count s.table.chains ≤ index)
  IsTrueOfSysv (Unreadable index) =
      ((bucket : ℕ) × Reaches bucket index) × (symbol_and_name s.symbols s.strings index ≡ None)
  IsTrueOfSysv (WrongBucket bucket index) =
      Reaches bucket index × IsSomeAnd (symbol_and_name s.symbols s.strings index) (λ found.
      sysv_hash_of found.1 % word_count s.table.buckets ≢ bucket)
  IsTrueOfSysv ShiftTooLarge = ⊥
  IsTrueOfSysv (WrongHash index) = ⊥
  IsTrueOfSysv (NoBloomBit index) = ⊥
  IsTrueOfSysv (NotInRun index) = ⊥

module _ (s : WithSymbols GnuTable) where
  -- the shift is small enough, and the chain word of an index lacks something
  abbrev pub WordLacks : ℕ → (ℕ → ℕ → Type 0) → Type 0
  WordLacks index Lacks =
      (s.table.hdr.nshift < 32)
      × ((k : ℕ) × (index ≡ s.table.hdr.table_start_idx + k) × IsSomeAnd (word s.table.chains k) (Lacks k))

  -- the name of an index can be read, and is such
  abbrev pub NameIs : ℕ → (List ℕ → Type 0) → Type 0
  NameIs index Such = IsSomeAnd (symbol_and_name s.symbols s.strings index) (λ found. Such found.1)

  -- the first requirement that a chain word does not meet: a name, the hash, the bits, the run
  abbrev pub IsTrueOfGnu : HashFault → Type 0
  IsTrueOfGnu ShiftTooLarge = 32 ≤ s.table.hdr.nshift
  IsTrueOfGnu (Unreadable index) = WordLacks index (λ k w. symbol_and_name s.symbols s.strings index ≡ None)
  IsTrueOfGnu (WrongHash index) =
      WordLacks index (λ k w. NameIs index (λ name. ¬ (w / 2 ≡ gnu_hash_of name / 2)))
  IsTrueOfGnu (NoBloomBit index) =
      WordLacks index (λ k w. NameIs index (λ name.
      (w / 2 ≡ gnu_hash_of name / 2) × ¬ HasBothBits s.table (gnu_hash_of name)))
  IsTrueOfGnu (NotInRun index) =
      WordLacks index (λ k w. NameIs index (λ name.
      (w / 2 ≡ gnu_hash_of name / 2) × HasBothBits s.table (gnu_hash_of name)
      × ¬ InRun s.table k (gnu_hash_of name)))
  IsTrueOfGnu (Endless bucket) = ⊥
  IsTrueOfGnu (PastChains bucket index) = ⊥
  IsTrueOfGnu (WrongBucket bucket index) = ⊥
