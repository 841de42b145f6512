-- How a linker fills a hash section: every word of it, by the names of the symbols.
use Rattle.std.specs.Prelude.{◌≡◌, ◌≢◌, ℕ, ◌+◌, ◌*◌, ◌/◌, ◌%◌, ◌^◌}
use Rattle.std.specs.Prelude.{◌<◌, ◌≤◌, bit_or, Bool, if◌then◌else◌, ◌==◌, not, ◌||◌}
use Rattle.std.specs.Prelude.{List, [], ◌∷◌, length, map, slice_index, slice_index_or, Some}
use Rattle.std.specs.List.{All, AllPairs, position_or_len}
use Rattle.elf_records.specs.Class.{address_bits}
use Rattle.elf_parts.specs.GnuFind.{GnuTable}
use Rattle.elf_parts.specs.Hash.{gnu_hash_of, sysv_hash_of, word_count}
use Rattle.elf_parts.specs.SysvFind.{SysvTable}
use Rattle.elf_records.specs.Table.{Table}
use Rattle.elf_parts.specs.declared.hash.gnu.GnuHashHeader.{GnuHashHeader}
use Rattle.elf_hash_check.specs.WithSymbols.{WithSymbols, bloom, name_at, word}

-- the words of a table: their number, and these
abbrev pub AreWords : Table → ℕ → (ℕ → ℕ) → Type 0
AreWords words count at = (word_count words ≡ count) × ((i : ℕ) → i < count → word words i ≡ Some (at i))

-- the name at a place of a list
abbrev pub name_in : List (List ℕ) → ℕ → List ℕ
name_in names place = slice_index_or names place []

-- ---- SysV (gABI, chapter "Hash Table"): the word of a bucket is the index of a symbol that belongs to it, and the
-- chain word of a symbol is the index of the next one of the same bucket, or 0. The linkers GNU ld, gold and lld begin
-- with words that are 0, and put in one symbol after the other: the chain word of the symbol becomes what the word of
-- its bucket was, and the word of its bucket becomes the index of the symbol. In which order they do it is open

module _ (bucket_of : ℕ → ℕ) where
  -- the word of a bucket once these symbols were put in, the last one of them first
  abbrev pub bucket_after : List ℕ → ℕ → ℕ
  bucket_after [] bucket = 0
  bucket_after (index ∷ earlier) bucket = if bucket_of index == bucket then index else bucket_after earlier bucket

  -- the chain word of a symbol
  abbrev pub chain_after : List ℕ → ℕ → ℕ
  chain_after [] symbol = 0
  chain_after (index ∷ earlier) symbol =
      if index == symbol then bucket_after earlier (bucket_of index) else chain_after earlier symbol

-- the bucket that a symbol belongs to, by its name
abbrev pub sysv_bucket : ℕ → List (List ℕ) → ℕ → ℕ
sysv_bucket nbucket names index = sysv_hash_of (name_in names index) % nbucket

-- all words of a section: a chain word for each symbol of the symbol table, and in them and in the buckets what the
-- symbols leave that were put in, the last one of them first
abbrev pub HasSysvWords : List (List ℕ) → List ℕ → SysvTable → Type 0
HasSysvWords names put t =
    let nbucket = word_count t.buckets in
    AreWords t.buckets nbucket (bucket_after (sysv_bucket nbucket names) put)
    × AreWords t.chains (length names) (chain_after (sysv_bucket nbucket names) put)

-- what may be put in, so that each symbol is found
pub record CanPutIn (nbucket : ℕ) (names : List (List ℕ)) (put : List ℕ) (symbols : Table) (strings : List ℕ)
    : Type 0 where
  -- without a bucket there is no place for a symbol
  pub some_bucket : 0 < nbucket
  -- index 0 is no symbol, since it ends a chain, and what is put in has a chain word
  pub there : All (λ index. (0 < index) × (index < length names)) put
  -- a symbol that is put in a second time would lead to itself
  pub once : AllPairs (λ i j. i ≢ j) put
  -- the names are those that the symbol table and the strings give
  pub named : All (λ index. name_at symbols strings index ≡ Some (name_in names index)) put

-- a section that was built for symbols of these names, starting at index 0, with those of them that were put in
abbrev pub IsBuiltSysv : List (List ℕ) → List ℕ → WithSymbols SysvTable → Type 0
IsBuiltSysv names put s =
    HasSysvWords names put s.table × CanPutIn (word_count s.table.buckets) names put s.symbols s.strings

-- ---- GNU: no standard says it; this is what the linkers GNU ld, gold and lld write. The symbols from the first one on
-- lie bucket by bucket, and each has a chain word, in the same order

module _ (nbucket : ℕ) (hashes : List ℕ) where
  -- the bucket that hash k belongs to
  abbrev pub gnu_bucket : ℕ → ℕ
  gnu_bucket k = slice_index hashes k % nbucket

  -- the place of the first hash of a bucket, or the number of hashes
  abbrev pub first_in : ℕ → ℕ
  first_in bucket = position_or_len (λ hash. hash % nbucket == bucket) hashes

  -- the word of a bucket: the index of its first symbol, or 0 if it has none; hash 0 is that of symbol `first`
  abbrev pub bucket_word : ℕ → ℕ → ℕ
  bucket_word first bucket = if first_in bucket == length hashes then 0 else first + first_in bucket

  -- hash k is the last one of its bucket
  abbrev pub ends_bucket : ℕ → Bool
  ends_bucket k = k + 1 == length hashes || not (gnu_bucket (k + 1) == gnu_bucket k)

  -- chain word k: the hash, except for bit 0, which is set in the last one of a bucket only
  abbrev pub run_word : ℕ → ℕ
  run_word k = slice_index hashes k / 2 * 2 + (if ends_bucket k then 1 else 0)

  -- the hashes of a bucket are consecutive, as they are if the hashes are in the order of their buckets
  abbrev pub AreGrouped : Type 0
  AreGrouped =
      (i j k : ℕ) → i ≤ j → j ≤ k → k < length hashes → gnu_bucket i ≡ gnu_bucket k → gnu_bucket j ≡ gnu_bucket i

module _ (bits nbloom shift : ℕ) where
  -- the two bits of a hash
  abbrev pub both_bits : ℕ → ℕ
  both_bits hash = bit_or (2 ^ (hash % bits)) (2 ^ (hash / 2 ^ shift % bits))

  -- a bloom word: the bits of all hashes that belong to it
  abbrev pub bloom_of_all : List ℕ → ℕ → ℕ
  bloom_of_all [] place = 0
  bloom_of_all (hash ∷ hashes) place =
      if hash / bits % nbloom == place then bit_or (both_bits hash) (bloom_of_all hashes place)
      else bloom_of_all hashes place

-- the hashes of names
abbrev pub gnu_hashes : List (List ℕ) → List ℕ
gnu_hashes names = map gnu_hash_of names

-- all words of a section
pub record HasGnuWords (hashes : List ℕ) (t : GnuTable) : Type 0 where
  pub bloom : (i : ℕ) → i < t.hdr.nbloom →
      bloom t.bloom i ≡ Some (bloom_of_all (address_bits t.bloom.class) t.hdr.nbloom t.hdr.nshift hashes i)
  pub buckets :
      AreWords t.buckets (word_count t.buckets) (bucket_word (word_count t.buckets) hashes t.hdr.table_start_idx)
  pub chains : AreWords t.chains (length hashes) (run_word (word_count t.buckets) hashes)

-- what symbols may be written, so that each of them is found
pub record CanWrite (h : GnuHashHeader) (nbucket : ℕ) (names : List (List ℕ)) (symbols : Table) (strings : List ℕ)
    : Type 0 where
  -- without a bucket or a bloom word there is no place for a symbol
  pub some_bucket : 0 < nbucket
  pub some_bloom : 0 < h.nbloom
  -- a hash has 32 bits, and a larger shift is an error
  pub shift : h.nshift < 32
  -- the run of a bucket would end before the others of it
  pub grouped : AreGrouped nbucket (gnu_hashes names)
  -- the names are those that the symbol table and the strings give
  pub named : (k : ℕ) → k < length names →
      name_at symbols strings (h.table_start_idx + k) ≡ Some (name_in names k)

-- a section that was built for the symbols from the first one on, which have these names
abbrev pub IsBuiltGnu : List (List ℕ) → WithSymbols GnuTable → Type 0
IsBuiltGnu names s =
    HasGnuWords (gnu_hashes names) s.table
    × CanWrite s.table.hdr (word_count s.table.buckets) names s.symbols s.strings
