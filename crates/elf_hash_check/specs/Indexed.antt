-- The symbols that a hash section indexes, how many they are, and those of them that have a name. Nothing is hashed
-- here and no chain is looked through: the names of all indexed symbols are compared.
use Rattle.std.specs.Prelude.{◌≡◌, ◌≢◌, ◌↔◌, ℕ, zero, suc, ◌+◌, ◌<◌, ◌≤◌, ◌==◌, Bool, false, if◌then◌else◌}
use Rattle.std.specs.Prelude.{List, length, slice_index, Option, Some, None}
use Rattle.std.specs.List.{Contains}
use Rattle.std.specs.Option.{IsSomeAnd}
use Rattle.elf_parts.specs.GnuFind.{GnuTable}
use Rattle.elf_parts.specs.Hash.{word_count}
use Rattle.elf_parts.specs.SysvFind.{SysvTable}
use Rattle.elf_records.specs.declared.symbol.Symbol.{Symbol}
use Rattle.elf_hash_check.specs.SoundSysv.{Visits, value}
use Rattle.elf_hash_check.specs.WithSymbols.{WithSymbols, symbol_and_name}

-- the symbol of an index has the name
abbrev pub HasName : {T : Type 0} → WithSymbols T → List ℕ → ℕ → Type 0
HasName s name index = IsSomeAnd (symbol_and_name s.symbols s.strings index) (λ found. found.1 ≡ name)

-- ---- GNU: one symbol for each chain word

abbrev pub IndexedGnu : GnuTable → ℕ → Type 0
IndexedGnu t i = (t.hdr.table_start_idx ≤ i) × (i < t.hdr.table_start_idx + word_count t.chains)

module _ (s : WithSymbols GnuTable) where
  abbrev pub ScanGnu : List ℕ → ℕ → Type 0
  ScanGnu name i = IndexedGnu s.table i × HasName s name i

  -- the least index of that name with its symbol, or that there is none
  abbrev pub IsLeastNamed : List ℕ → Option (ℕ × Symbol) → Type 0
  IsLeastNamed name None = (i : ℕ) → ScanGnu name i → ⊥
  IsLeastNamed name (Some found) =
      IndexedGnu s.table found.0 × (symbol_and_name s.symbols s.strings found.0 ≡ Some (found.1, name))
      × ((i : ℕ) → ScanGnu name i → found.0 ≤ i)

-- ---- SysV: the values of the chains before their 0

module _ (t : SysvTable) where
  -- those of the buckets below this one
  abbrev pub IndexedBelow : ℕ → ℕ → Type 0
  IndexedBelow limit index = (bucket : ℕ) × (j : ℕ) × (bucket < limit) × Visits t bucket j index

  abbrev pub IndexedSysv : ℕ → Type 0
  IndexedSysv index = IndexedBelow (word_count t.buckets) index

module _ (s : WithSymbols SysvTable) where
  abbrev pub ScanSysv : List ℕ → ℕ → Type 0
  ScanSysv name i = IndexedSysv s.table i × HasName s name i

  -- value j of a bucket's chain is the first one of that name
  abbrev pub IsFirst : List ℕ → ℕ → ℕ → ℕ → Type 0
  IsFirst name bucket j index =
      (bucket < word_count s.table.buckets) × Visits s.table bucket j index
      × ((i : ℕ) → i < j → IsSomeAnd (value s.table bucket i) (HasName s name) → ⊥)

  -- the first index of that name in its chain with its symbol, or that no indexed symbol has the name
  abbrev pub IsFirstNamed : List ℕ → Option (ℕ × Symbol) → Type 0
  IsFirstNamed name None = (i : ℕ) → ScanSysv name i → ⊥
  IsFirstNamed name (Some found) =
      (symbol_and_name s.symbols s.strings found.0 ≡ Some (found.1, name))
      × ((bucket : ℕ) × (j : ℕ) × IsFirst name bucket j found.0)

-- ---- how many they are

-- n is the number of members: there is a list of them, without repetition, of this length
pub record IsNumberOf (n : ℕ) (Member : ℕ → Type 0) : Type 0 where
  pub members : List ℕ
  pub all : (i : ℕ) → Contains members i ↔ Member i
  pub apart : (j k : ℕ) → j < k → k < length members → slice_index members j ≢ slice_index members k
  pub count : n ≡ length members

-- Of a sound SysV section as many as its chains have values before their 0.

-- the value is there, and is 0
abbrev pub is_zero : Option ℕ → Bool
is_zero None = false
is_zero (Some v) = v == 0

-- the place of the first 0 from i on, or i + limit if there is none before it
abbrev pub first_zero : (ℕ → Option ℕ) → ℕ → ℕ → ℕ
first_zero values zero i = i
first_zero values (suc limit) i = if is_zero (values i) then i else first_zero values limit (suc i)

-- the lengths of the chains of the buckets below this one, added up
unfoldable pub chain_lengths : SysvTable → ℕ → ℕ
chain_lengths t zero = 0
chain_lengths t (suc bucket) = chain_lengths t bucket + first_zero (value t bucket) (word_count t.chains) 0
