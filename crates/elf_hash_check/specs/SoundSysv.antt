-- When a SysV hash section is sound for its symbols (gABI, chapter "Hash Table").
use Rattle.std.specs.Prelude.{◌≡◌, ◌≢◌, ℕ, zero, suc, ◌%◌, ◌<◌, ◌≤◌, Option, Some, None}
use Rattle.std.specs.Option.{IsSomeAnd}
use Rattle.elf_parts.specs.Hash.{sysv_hash_of, word_count}
use Rattle.elf_parts.specs.SysvFind.{SysvTable}
use Rattle.elf_records.specs.Table.{Table}
use Rattle.elf_hash_check.specs.WithSymbols.{WithSymbols, symbol_and_name, word}

-- the chain word at a value
abbrev pub chain_word : Table → Option ℕ → Option ℕ
chain_word chains None = None
chain_word chains (Some v) = word chains v

module _ (t : SysvTable) where
  -- value j of a bucket's chain: the word of the bucket, and then the chain word at the value before
  abbrev pub value : ℕ → ℕ → Option ℕ
  value bucket zero = word t.buckets bucket
  value bucket (suc j) = chain_word t.chains (value bucket j)

  -- value j of a bucket's chain is this index, j is at most the number of chain words, and no value up to it is 0
  abbrev pub Visits : ℕ → ℕ → ℕ → Type 0
  Visits bucket j index =
      (j ≤ word_count t.chains) × (value bucket j ≡ Some index)
      × ((i : ℕ) → i ≤ j → value bucket i ≢ Some 0)

module _ (s : WithSymbols SysvTable) where
  -- an index has a chain word, and its symbol has a name whose hash belongs to the bucket
  abbrev pub Belongs : ℕ → ℕ → Type 0
  Belongs bucket index =
      (index < word_count s.table.chains)
      × IsSomeAnd (symbol_and_name s.symbols s.strings index) (λ found.
      sysv_hash_of found.1 % word_count s.table.buckets ≡ bucket)

  -- the first 0 of a bucket's chain is value j, j is at most the number of chain words, and every value before it
  -- belongs to the bucket
  abbrev pub EndsAt : ℕ → ℕ → Type 0
  EndsAt bucket j =
      (j ≤ word_count s.table.chains) × (value s.table bucket j ≡ Some 0)
      × ((i : ℕ) → i < j → IsSomeAnd (value s.table bucket i) (λ index. (0 < index) × Belongs bucket index))

  -- every bucket's chain ends so
  abbrev pub SoundSysv : Type 0
  SoundSysv = (bucket : ℕ) → bucket < word_count s.table.buckets → (j : ℕ) × EndsAt bucket j
