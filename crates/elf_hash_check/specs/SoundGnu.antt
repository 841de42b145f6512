-- When a GNU hash section is sound for its symbols.
use Rattle.std.specs.Prelude.{◌≡◌, ℕ, ◌+◌, ◌/◌, ◌%◌, ◌^◌, ◌<◌, ◌≤◌, Some}
use Rattle.std.specs.Int.{bit_at}
use Rattle.std.specs.Option.{IsSomeAnd}
use Rattle.elf_records.specs.Class.{address_bits}
use Rattle.elf_parts.specs.GnuFind.{GnuTable}
use Rattle.elf_parts.specs.Hash.{gnu_hash_of, word_count}
use Rattle.elf_hash_check.specs.WithSymbols.{WithSymbols, bloom, symbol_and_name, word}

module _ (t : GnuTable) where
  -- both bits of a hash are set in its bloom word
  abbrev pub HasBothBits : ℕ → Type 0
  HasBothBits hash =
      (0 < t.hdr.nbloom) × IsSomeAnd (bloom t.bloom (hash / address_bits t.bloom.class % t.hdr.nbloom)) (λ w.
      (bit_at w (hash % address_bits t.bloom.class) ≡ 1)
      × (bit_at w (hash / 2 ^ t.hdr.nshift % address_bits t.bloom.class) ≡ 1))

  -- chain word k lies in the run that begins with the chain word of this symbol:
  -- no chain word from that one up to k, k not included, has bit 0 set
  abbrev pub RunsTo : ℕ → ℕ → Type 0
  RunsTo k index =
      (t.hdr.table_start_idx ≤ index) × (index ≤ t.hdr.table_start_idx + k)
      × ((j v : ℕ) → index ≤ t.hdr.table_start_idx + j → j < k → word t.chains j ≡ Some v → v % 2 ≡ 0)

  -- chain word k lies in the run of the bucket of a hash
  abbrev pub InRun : ℕ → ℕ → Type 0
  InRun k hash =
      (0 < word_count t.buckets) × IsSomeAnd (word t.buckets (hash % word_count t.buckets)) (RunsTo k)

module _ (s : WithSymbols GnuTable) where
  -- the name of chain word k can be read, and the word is its hash apart from bit 0, whose bloom bits are set and
  -- in whose run the word lies
  abbrev pub SoundWord : ℕ → ℕ → Type 0
  SoundWord k w = IsSomeAnd (symbol_and_name s.symbols s.strings (s.table.hdr.table_start_idx + k)) (λ found.
      (w / 2 ≡ gnu_hash_of found.1 / 2) × HasBothBits s.table (gnu_hash_of found.1)
      × InRun s.table k (gnu_hash_of found.1))

  -- the shift leaves bits, and every chain word is sound
  abbrev pub SoundGnu : Type 0
  SoundGnu = (s.table.hdr.nshift < 32) × ((k w : ℕ) → word s.table.chains k ≡ Some w → SoundWord k w)
