-- Which fault of a section is the first one, in the order in which a check looks for them.
use Rattle.std.specs.Prelude.{◌≡◌, ℕ, ◌+◌, ◌<◌, Some}
use Rattle.std.specs.Option.{IsSomeAnd}
use Rattle.elf_parts.specs.GnuFind.{GnuTable}
use Rattle.elf_parts.specs.Hash.{word_count}
use Rattle.elf_parts.specs.SysvFind.{SysvTable}
use Rattle.elf_hash_check.specs.Faults.{IsTrueOfGnu, IsTrueOfSysv}
use Rattle.elf_hash_check.specs.SoundGnu.{SoundWord}
use Rattle.elf_hash_check.specs.SoundSysv.{Belongs, EndsAt, value}
use Rattle.elf_hash_check.specs.WithSymbols.{WithSymbols, word}
use Rattle.elf_hash_check.specs.declared.hashcheck.HashFault.{HashFault}
use Rattle.elf_hash_check.specs.declared.hashcheck.HashFault.TheVariants.{Endless, NoBloomBit, NotInRun, PastChains}
use Rattle.elf_hash_check.specs.declared.hashcheck.HashFault.TheVariants.{ShiftTooLarge, Unreadable, WrongBucket}
use Rattle.elf_hash_check.specs.declared.hashcheck.HashFault.TheVariants.{WrongHash}

-- ---- of a SysV section: the buckets in order, of each its chain, and of each index its chain word, its name, its bucket

module _ (s : WithSymbols SysvTable) where
  -- the values of a bucket's chain before value j belong to the bucket, and none of them is 0
  abbrev pub BelongBefore : ℕ → ℕ → Type 0
  BelongBefore bucket j =
      (i : ℕ) → i < j → IsSomeAnd (value s.table bucket i) (λ index. (0 < index) × Belongs s bucket index)

  -- value j of a bucket's chain is an index, after fewer others than there are chain words
  abbrev pub IsIndexAt : ℕ → ℕ → ℕ → Type 0
  IsIndexAt bucket j index = (j < word_count s.table.chains) × (value s.table bucket j ≡ Some index)

  -- a fault is found at value j of a bucket's chain: at the index that it names, or at the value after as many others
  -- as there are chain words. The name of an index is read only if it has a chain word.
  abbrev pub IsFaultAt : ℕ → ℕ → HashFault → Type 0
  IsFaultAt bucket j (Endless b) = (b ≡ bucket) × (j ≡ word_count s.table.chains)
  IsFaultAt bucket j (PastChains b index) = (b ≡ bucket) × IsIndexAt bucket j index
  IsFaultAt bucket j (Unreadable index) = (index < word_count s.table.chains) × IsIndexAt bucket j index
  IsFaultAt bucket j (WrongBucket b index) =
      (b ≡ bucket) × (index < word_count s.table.chains) × IsIndexAt bucket j index
  IsFaultAt bucket j ShiftTooLarge = ⊥
  IsFaultAt bucket j (WrongHash index) = ⊥
  IsFaultAt bucket j (NoBloomBit index) = ⊥
  IsFaultAt bucket j (NotInRun index) = ⊥

  -- there it comes first: the chains of the buckets before all end, and the values before it in its chain belong there
  abbrev pub IsFirstAt : ℕ → ℕ → HashFault → Type 0
  IsFirstAt bucket j fault =
      ((b : ℕ) → b < bucket → (k : ℕ) × EndsAt s b k) × BelongBefore bucket j × IsFaultAt bucket j fault

  abbrev pub ComesFirstOfSysv : HashFault → Type 0
  ComesFirstOfSysv fault = (bucket : ℕ) × (j : ℕ) × IsFirstAt bucket j fault

  abbrev pub IsFirstOfSysv : HashFault → Type 0
  IsFirstOfSysv fault = IsTrueOfSysv s fault × ComesFirstOfSysv fault

-- ---- of a GNU section: the shift, and then the chain words in order

module _ (s : WithSymbols GnuTable) where
  -- a fault names an index whose chain word comes after chain word k
  abbrev pub IsAfter : ℕ → HashFault → Type 0
  IsAfter k (Unreadable index) = s.table.hdr.table_start_idx + k < index
  IsAfter k (WrongHash index) = s.table.hdr.table_start_idx + k < index
  IsAfter k (NoBloomBit index) = s.table.hdr.table_start_idx + k < index
  IsAfter k (NotInRun index) = s.table.hdr.table_start_idx + k < index
  IsAfter k ShiftTooLarge = ⊥
  IsAfter k (Endless bucket) = ⊥
  IsAfter k (PastChains bucket index) = ⊥
  IsAfter k (WrongBucket bucket index) = ⊥

  -- the chain words before that of the index which the fault names are sound
  abbrev pub ComesFirstOfGnu : HashFault → Type 0
  ComesFirstOfGnu fault = (k w : ℕ) → IsAfter k fault → word s.table.chains k ≡ Some w → SoundWord s k w

  abbrev pub IsFirstOfGnu : HashFault → Type 0
  IsFirstOfGnu fault = IsTrueOfGnu s fault × ComesFirstOfGnu fault
