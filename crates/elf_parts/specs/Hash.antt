-- The two hashes of a name (gABI, chapter "Hash Table", and GNU's), and what a hash section is read by: its header,
-- words, and symbols with their names.
use Rattle.std.specs.Prelude.{◌≡◌, ◌↔◌, ℕ, ◌+◌, ◌*◌, ◌/◌, ◌%◌, ◌^◌, ◌<◌, List, [], ◌∷◌, slice_index, length, refl}
use Rattle.std.specs.Prelude.{bit_and, bit_xor, if◌then◌else◌, Option, Some, None, Result, Ok, IsOk}
use Rattle.std.specs.Str.{bytes_eq}
use Rattle.elf_records.specs.Record.{◌>>=◌, Field, field, Layout, RecordType}
use Rattle.elf_records.specs.StringTable.{string_at}
use Rattle.elf_records.specs.Symbol.{symbol_reads}
use Rattle.elf_records.specs.Table.{Table, table_get}
use Rattle.elf_records.specs.Word.{u32_reads, u64_reads}
use Rattle.elf_records.specs.inner.RecordLaws.{by_layout}
use Rattle.elf_parts.specs.declared.hash.sysv.SysVHashHeader.{SysVHashHeader}
use Rattle.elf_parts.specs.declared.hash.gnu.GnuHashHeader.{GnuHashHeader}
use Rattle.elf_records.specs.declared.parse.ParseError.{ParseError}
use Rattle.elf_records.specs.declared.symbol.Symbol.{Symbol}

-- ---- the hashes, on 32-bit words that wrap

-- the top four bits are taken off, and XORed in at bit 4
abbrev pub hash_fold : ℕ → ℕ
hash_fold h = bit_and (bit_xor h (bit_and h 0xf0000000 / 2 ^ 24)) 0x0fffffff

-- gABI's function, from a hash on
abbrev pub sysv_hash_from : ℕ → List ℕ → ℕ
sysv_hash_from h [] = h
sysv_hash_from h (byte ∷ bytes) = sysv_hash_from (hash_fold ((16 * h + byte) % 2 ^ 32)) bytes

unfoldable pub sysv_hash_of : List ℕ → ℕ
sysv_hash_of name = sysv_hash_from 0 name

-- GNU's function, from a hash on
abbrev pub gnu_hash_from : ℕ → List ℕ → ℕ
gnu_hash_from h [] = h
gnu_hash_from h (byte ∷ bytes) = gnu_hash_from ((33 * h + byte) % 2 ^ 32) bytes

unfoldable pub gnu_hash_of : List ℕ → ℕ
gnu_hash_of name = gnu_hash_from 5381 name

-- ---- the headers, the same in both classes

abbrev pub sysv_header_fields : List Field
sysv_header_fields =
    field 0 4 ∷  -- nbucket
    field 4 4 ∷  -- nchain
    []

abbrev pub sysv_header_layout : Layout SysVHashHeader
sysv_header_layout = record {
  fields = λ _. sysv_header_fields;
  make = λ _ n. record { nbucket = slice_index n 0; nchain = slice_index n 1 };
}

abbrev pub sysv_header_reads : RecordType SysVHashHeader
sysv_header_reads = by_layout sysv_header_layout refl

abbrev pub gnu_header_fields : List Field
gnu_header_fields =
    field 0 4 ∷  -- nbucket
    field 4 4 ∷  -- table_start_idx
    field 8 4 ∷  -- nbloom
    field 12 4 ∷  -- nshift
    []

abbrev pub gnu_header_layout : Layout GnuHashHeader
gnu_header_layout = record {
  fields = λ _. gnu_header_fields;
  make = λ _ n. record {
    nbucket = slice_index n 0;
    table_start_idx = slice_index n 1;
    nbloom = slice_index n 2;
    nshift = slice_index n 3;
  };
}

abbrev pub gnu_header_reads : RecordType GnuHashHeader
gnu_header_reads = by_layout gnu_header_layout refl

-- ---- words, and symbols with their names

-- how many words of four bytes there are
abbrev pub word_count : Table → ℕ
word_count words = length words.bytes / 4

-- word i of four bytes, or the error
unfoldable pub word_at : Table → ℕ → Result ℕ ParseError
word_at words i = table_get u32_reads words i

-- word i of eight bytes, or the error
unfoldable pub long_word_at : Table → ℕ → Result ℕ ParseError
long_word_at words i = table_get u64_reads words i

-- symbol i, or the error
abbrev pub symbol_at : Table → ℕ → Result Symbol ParseError
symbol_at symbols i = table_get symbol_reads symbols i

-- symbol i and its name, or the error of either
unfoldable pub named_symbol : Table → List ℕ → ℕ → Result (Symbol × List ℕ) ParseError
named_symbol symbols strings i =
    symbol_at symbols i >>= λ symbol.
    string_at strings symbol.st_name >>= λ name. Ok (symbol, name)

-- an index and its symbol, where that has the name
abbrev pub if_named : List ℕ → ℕ → Symbol × List ℕ → Option (ℕ × Symbol)
if_named name i found = if bytes_eq found.1 name then Some (i, found.0) else None

-- an index and a symbol are those of a symbol of this name
abbrev pub IsNamed : Table → List ℕ → List ℕ → ℕ × Symbol → Type 0
IsNamed symbols strings name found =
    (symbol_at symbols found.0 ≡ Ok found.1) × (string_at strings found.1.st_name ≡ Ok name)

-- exactly the words below their count can be read
abbrev pub ReadsBelowCount : Table → Type 0
ReadsBelowCount words = (i : ℕ) → IsOk (word_at words i) ↔ (i < word_count words)
