-- All symbols of a name that a checked table indexes, in the order in which a look-up meets them.
use Rattle.std.specs.Prelude.{◌≡◌, ◌≢◌, ◌↔◌, ℕ, zero, suc, ◌+◌, ◌-◌, ◌%◌, ◌<◌, if◌then◌else◌, ◌==◌}
use Rattle.std.specs.Prelude.{List, [], ◌∷◌, Option, Some, None}
use Rattle.std.specs.List.{AllPairs, Contains, filter_map}
use Rattle.std.specs.Str.{bytes_eq}
use Rattle.elf_parts.specs.GnuFind.{GnuTable}
use Rattle.elf_parts.specs.Hash.{word_count}
use Rattle.elf_parts.specs.SysvFind.{SysvTable}
use Rattle.elf_records.specs.Table.{Table, table_view}
use Rattle.elf_records.specs.declared.symbol.Symbol.{Symbol}
use Rattle.elf_hash_check.specs.Object.{ByGnu, BySysv, Indexed, IsFound, Object}
use Rattle.elf_hash_check.specs.SoundSysv.{Visits}
use Rattle.elf_hash_check.specs.WithSymbols.{symbol_and_name, word}
use Rattle.elf_hash_check.specs.declared.hashcheck.named.Following.{Following}
use Rattle.elf_hash_check.specs.declared.hashcheck.named.Following.TheVariants.{Chain, Run}
use Rattle.elf_hash_check.specs.declared.hashcheck.named.NamedSymbols.{NamedSymbols}
use Rattle.elf_hash_check.specs.declared.hashcheck.named.FollowingIndexes.{FollowingIndexes}

-- ---- which symbols these are

-- the object indexes a symbol by this index, it is this one, and it has the name
abbrev pub IsIndexedWithName : Object → List ℕ → ℕ × Symbol → Type 0
IsIndexedWithName (BySysv s) name one = Indexed (BySysv s) one.0
    × (symbol_and_name s.symbols s.strings one.0 ≡ Some (one.1, name))
IsIndexedWithName (ByGnu s) name one = Indexed (ByGnu s) one.0
    × (symbol_and_name s.symbols s.strings one.0 ≡ Some (one.1, name))

-- an index comes before another: in the same chain, or in the order of the indexes
abbrev pub Precedes : Object → ℕ → ℕ → Type 0
Precedes (BySysv s) i j =
    (bucket : ℕ) × (p : ℕ) × (q : ℕ) × (p < q) × Visits s.table bucket p i × Visits s.table bucket q j
Precedes (ByGnu s) i j = i < j

-- the first of a list, if there is one
abbrev pub first_of : {A : Type 0} → List A → Option A
first_of [] = None
first_of (x ∷ xs) = Some x

-- exactly the symbols of the name, each once and in order, and the first one is what a look-up finds
pub record AreAllNamed (object : Object) (name : List ℕ) (found : List (ℕ × Symbol)) : Type 0 where
  pub all : (one : ℕ × Symbol) → Contains found one ↔ IsIndexedWithName object name one
  pub once : AllPairs (λ one other. one.0 ≢ other.0) found
  pub order : AllPairs (λ one other. Precedes object one.0 other.0) found
  pub first : IsFound object name (first_of found)

-- ---- what an iterator has left to yield

-- the next index, if there is one: its chain word where that is not 0, or the next index where the chain
-- word does not end the run
abbrev pub unless_zero : Option ℕ → Option ℕ
unless_zero (Some v) = if v == 0 then None else Some v
unless_zero None = None

abbrev pub unless_last : ℕ → Option ℕ → Option ℕ
unless_last index (Some v) = if v % 2 == 1 then None else Some (index + 1)
unless_last index None = None

abbrev pub index_behind : Table → Following → ℕ → Option ℕ
index_behind chains Chain index = unless_zero (word chains index)
index_behind chains (Run first) index = unless_last index (word chains (index - first))

-- an index, the next one, and so on, at most `limit`
abbrev pub indexes_from : (ℕ → Option ℕ) → ℕ → Option ℕ → List ℕ
indexes_from behind zero start = []
indexes_from behind (suc limit) None = []
indexes_from behind (suc limit) (Some index) = index ∷ indexes_from behind limit (behind index)

-- the symbol of an index, if it has the name
abbrev pub where_named : List ℕ → ℕ → Option (Symbol × List ℕ) → Option (ℕ × Symbol)
where_named name index (Some found) = if bytes_eq found.1 name then Some (index, found.0) else None
where_named name index None = None

abbrev pub symbol_named : Table → List ℕ → List ℕ → ℕ → Option (ℕ × Symbol)
symbol_named symbols strings name index = where_named name index (symbol_and_name symbols strings index)

-- those of these indexes whose symbols have the name
abbrev pub symbols_with_name : Table → List ℕ → List ℕ → List ℕ → List (ℕ × Symbol)
symbols_with_name symbols strings name indexes = filter_map (symbol_named symbols strings name) indexes

-- the indexes from the one on that a look-up found, up to the end of its chain, or of its run
abbrev pub chain_from : SysvTable → Option (ℕ × Symbol) → List ℕ
chain_from t None = []
chain_from t (Some found) = indexes_from (index_behind t.chains Chain) (word_count t.chains) (Some found.0)

abbrev pub run_from : GnuTable → Option (ℕ × Symbol) → List ℕ
run_from t None = []
run_from t (Some found) =
    let first = t.hdr.table_start_idx in
    indexes_from (index_behind t.chains (Run first)) (word_count t.chains - (found.0 - first)) (Some found.0)

abbrev pub indexes_left : {E : Type 0} → FollowingIndexes E → List ℕ
indexes_left s = indexes_from (index_behind (table_view s.chains) s.links) s.left s.next

abbrev pub named_left : {E : Type 0} → NamedSymbols E → List (ℕ × Symbol)
named_left s = symbols_with_name (table_view s.symtab) s.strings s.name.now (indexes_left s.walk)
