-- GNU hash sections, and what is found by them.
use Rattle.std.specs.Prelude.{ℕ, ◌+◌, ◌-◌, ◌*◌, ◌/◌, ◌%◌, ◌^◌, ◌<◌, zero, suc, Bool, false, not, ◌||◌, if◌then◌else◌, ◌==◌}
use Rattle.std.specs.Prelude.{nat_lt, nat_le, List, [], ◌∷◌, drop, map, Option, None, Result, Ok, Err, IsOk}
use Rattle.std.specs.Int.{bit_at}
use Rattle.elf_records.specs.Class.{address_bits, address_size}
use Rattle.elf_parts.specs.Hash.{gnu_hash_of, gnu_header_layout, if_named, long_word_at, named_symbol, word_at}
use Rattle.elf_parts.specs.Hash.{word_count}
use Rattle.elf_records.specs.Number.{bytes_at, ok_map}
use Rattle.elf_records.specs.Record.{◌>>=◌, record_by}
use Rattle.elf_parts.specs.SysvFind.{first_decided}
use Rattle.elf_records.specs.Table.{Table, table_in, table_view}
use Rattle.elf_records.specs.declared.file.Class.{Class}
use Rattle.elf_records.specs.declared.file.Class.TheVariants.{ELF32, ELF64}
use Rattle.elf_parts.specs.declared.hash.gnu.GnuHashHeader.{GnuHashHeader}
use Rattle.elf_parts.specs.declared.hash.gnu.GnuHashTable.{GnuHashTable}
use Rattle.elf_records.specs.declared.parse.ParseError.{ParseError}
use Rattle.elf_records.specs.declared.parse.ParseError.TheVariants.{IntegerOverflow}
use Rattle.elf_records.specs.declared.symbol.Symbol.{Symbol}

-- the header as it is now, the bloom words, the words of the buckets, and the chain words
pub record GnuTable : Type 0 where
  pub hdr : GnuHashHeader
  pub bloom : Table
  pub buckets : Table
  pub chains : Table

-- the table of these parts, whose words all have this order and class
abbrev pub gnu_of_parts : Bool → Class → GnuHashHeader → List ℕ → List ℕ → List ℕ → GnuTable
gnu_of_parts little class header bloom buckets chains = record {
  hdr = header;
  bloom = table_in little class bloom;
  buckets = table_in little class buckets;
  chains = table_in little class chains;
}

abbrev pub gnu_view : {E : Type 0} → GnuHashTable E → GnuTable
gnu_view t = record {
  hdr = t.hdr;
  bloom = table_in t.little t.class t.bloom.now;
  buckets = table_view t.buckets;
  chains = table_view t.chains;
}

-- bloom word i, which has the size of an address, or the error
abbrev pub bloom_word_by : Class → Table → ℕ → Result ℕ ParseError
bloom_word_by ELF32 bloom i = word_at bloom i
bloom_word_by ELF64 bloom i = long_word_at bloom i

unfoldable pub bloom_word : Table → ℕ → Result ℕ ParseError
bloom_word bloom i = bloom_word_by bloom.class bloom i

-- the table that the bytes of a section hold: the header, nbloom bloom words and nbucket words, or the first
-- error; the rest of the bytes are the chain words
unfoldable pub gnu_section : Bool → Class → List ℕ → Result GnuTable ParseError
gnu_section little class bytes =
    record_by gnu_header_layout little class bytes 0 >>= λ header.
    bytes_at (address_size class * header.nbloom) bytes 16 >>= λ bloom.
    bytes_at (4 * header.nbucket) bytes (16 + address_size class * header.nbloom) >>= λ buckets.
    Ok (gnu_of_parts little class header bloom buckets
    (drop (16 + address_size class * header.nbloom + 4 * header.nbucket) bytes))

-- the rest of a run, after a word that does not end it
abbrev pub run_on : Result ℕ ParseError → List ℕ → List ℕ
run_on (Ok word) rest = if word % 2 == 1 then [] else rest
run_on (Err e) rest = []

-- the places from this one up to and with that of the first chain word whose bit 0 is set, at most `limit`
abbrev pub run : Table → ℕ → ℕ → List ℕ
run chains zero place = []
run chains (suc limit) place = place ∷ run_on (word_at chains place) (run chains limit (place + 1))

-- whether bits that are set or clear, or cannot be read, tell that a hash does not pass
abbrev pub excluded_by : Result Bool ParseError → Bool
excluded_by (Ok passed) = not passed
excluded_by (Err e) = false

module _ (t : GnuTable) where
  -- the bloom word of a hash
  abbrev pub bloom_of : ℕ → Result ℕ ParseError
  bloom_of hash = bloom_word t.bloom (hash / address_bits t.bloom.class % t.hdr.nbloom)

  -- whether both bits of a hash are set in its bloom word; the second one is read only if the first is set
  unfoldable pub passes : ℕ → Result Bool ParseError
  passes hash =
      bloom_of hash >>= λ word.
      if bit_at word (hash % address_bits t.bloom.class) == 0 then Ok false
      else if nat_le 32 t.hdr.nshift then Err IntegerOverflow
      else Ok (bit_at word (hash / 2 ^ t.hdr.nshift % address_bits t.bloom.class) == 1)

  -- whether the bloom words tell that no name has a hash: there are none, or one of the two bits is clear
  abbrev pub excludes : ℕ → Bool
  excludes hash = t.hdr.nbloom == 0 || excluded_by (passes hash)

  -- the bloom words that the header counts can be read
  abbrev pub ReadsBloom : Type 0
  ReadsBloom = (i : ℕ) → i < t.hdr.nbloom → IsOk (bloom_word t.bloom i)

module _ (t : GnuTable) (symbols : Table) (strings name : List ℕ) where
  -- what a chain word decides, at the index of its symbol: if it is the hash apart from bit 0, the error of
  -- the symbol or its name, or the symbol if it has the name
  abbrev pub word_decides : ℕ → ℕ → Result (Option (ℕ × Symbol)) ParseError
  word_decides index word =
      if word / 2 == gnu_hash_of name / 2 then ok_map (if_named name index) (named_symbol symbols strings index)
      else Ok None

  abbrev pub place_decides : ℕ → Result (Option (ℕ × Symbol)) ParseError
  place_decides place = word_at t.chains place >>= word_decides (t.hdr.table_start_idx + place)

  -- the index and the symbol of this name, by the first place of the run that decides
  unfoldable pub find_in_run : ℕ → ℕ → Result (Option (ℕ × Symbol)) ParseError
  find_in_run limit place = first_decided (map place_decides (run t.chains limit place))

  -- the same by the word of a bucket, which is the index of the first symbol of its run
  abbrev pub find_in_bucket : ℕ → Result (Option (ℕ × Symbol)) ParseError
  find_in_bucket index =
      if nat_lt index t.hdr.table_start_idx then Ok None
      else find_in_run (word_count t.chains - (index - t.hdr.table_start_idx)) (index - t.hdr.table_start_idx)

  -- the same in the bucket of the name's hash
  abbrev pub find_by_hash : Result (Option (ℕ × Symbol)) ParseError
  find_by_hash = word_at t.buckets (gnu_hash_of name % word_count t.buckets) >>= find_in_bucket

  -- the same, where the bloom words let the hash pass
  unfoldable pub gnu_find : Result (Option (ℕ × Symbol)) ParseError
  gnu_find =
      if word_count t.buckets == 0 || t.hdr.nbloom == 0 then Ok None
      else passes t (gnu_hash_of name) >>= λ passed.
      if passed then find_by_hash else Ok None
