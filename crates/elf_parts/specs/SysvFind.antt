-- SysV hash sections, and what is found by them (gABI, chapter "Hash Table").
use Rattle.std.specs.Prelude.{ℕ, ◌+◌, ◌*◌, ◌%◌, zero, suc, Bool, if◌then◌else◌, ◌==◌, List, [], ◌∷◌, map, Option, Some}
use Rattle.std.specs.Prelude.{None, Result, Ok, Err}
use Rattle.elf_parts.specs.Hash.{if_named, named_symbol, sysv_hash_of, sysv_header_layout, word_at, word_count}
use Rattle.elf_records.specs.Number.{bytes_at, ok_map}
use Rattle.elf_records.specs.Record.{◌>>=◌, record_by}
use Rattle.elf_records.specs.Table.{Table, table_in, table_view}
use Rattle.elf_records.specs.declared.file.Class.{Class}
use Rattle.elf_parts.specs.declared.hash.sysv.SysVHashTable.{SysVHashTable}
use Rattle.elf_records.specs.declared.parse.ParseError.{ParseError}
use Rattle.elf_records.specs.declared.symbol.Symbol.{Symbol}

-- the words of the buckets, and the chain words
pub record SysvTable : Type 0 where
  pub buckets : Table
  pub chains : Table

-- the table of these parts, whose words all have this order and class
abbrev pub sysv_of_parts : Bool → Class → List ℕ → List ℕ → SysvTable
sysv_of_parts little class buckets chains =
    record { buckets = table_in little class buckets; chains = table_in little class chains }

abbrev pub sysv_view : {E : Type 0} → SysVHashTable E → SysvTable
sysv_view t = record { buckets = table_view t.buckets; chains = table_view t.chains }

-- the table that the bytes of a section hold: the header, nbucket words and nchain words, or the first error
unfoldable pub sysv_section : Bool → Class → List ℕ → Result SysvTable ParseError
sysv_section little class bytes =
    record_by sysv_header_layout little class bytes 0 >>= λ header.
    bytes_at (4 * header.nbucket) bytes 8 >>= λ buckets.
    bytes_at (4 * header.nchain) bytes (8 + 4 * header.nbucket) >>= λ chains.
    Ok (sysv_of_parts little class buckets chains)

-- the first answer of a list that is an error or finds something
abbrev pub first_decided : {A : Type 0} → List (Result (Option A) ParseError) → Result (Option A) ParseError
first_decided [] = Ok None
first_decided (Ok None ∷ rest) = first_decided rest
first_decided (Ok (Some x) ∷ rest) = Ok (Some x)
first_decided (Err e ∷ rest) = Err e

-- the rest of a walk, where the chain word that leads there can be read
abbrev pub walk_on : Result ℕ ParseError → (ℕ → List ℕ) → List ℕ
walk_on (Ok next) rest = rest next
walk_on (Err e) rest = []

-- an index, the chain word at it, and so on: at most `limit` of them, none of them 0
abbrev pub walk : Table → ℕ → ℕ → List ℕ
walk chains zero index = []
walk chains (suc limit) index =
    if index == 0 then [] else index ∷ walk_on (word_at chains index) (walk chains limit)

module _ (t : SysvTable) (symbols : Table) (strings name : List ℕ) where
  -- what an index of a walk decides: the error of its symbol or its name, the symbol if it has the name, or
  -- the error of its chain word
  abbrev pub decided_by : ℕ → Option (ℕ × Symbol) → Result (Option (ℕ × Symbol)) ParseError
  decided_by index (Some found) = Ok (Some found)
  decided_by index None = word_at t.chains index >>= λ _. Ok None

  abbrev pub index_decides : ℕ → Result (Option (ℕ × Symbol)) ParseError
  index_decides index = ok_map (if_named name index) (named_symbol symbols strings index) >>= decided_by index

  -- the index and the symbol of this name, by the first index of the walk that decides
  unfoldable pub find_along : ℕ → ℕ → Result (Option (ℕ × Symbol)) ParseError
  find_along limit index = first_decided (map index_decides (walk t.chains limit index))

  -- the same from the bucket of the name's hash on, by at most as many indexes as there are chain words
  unfoldable pub sysv_find : Result (Option (ℕ × Symbol)) ParseError
  sysv_find =
      if word_count t.buckets == 0 then Ok None
      else word_at t.buckets (sysv_hash_of name % word_count t.buckets) >>= λ index.
      find_along (word_count t.chains) index
