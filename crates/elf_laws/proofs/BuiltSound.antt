-- Hash sections that were built as linkers build them are sound, and index every symbol that was put in.
use Rattle.std.proofs.Common.{◌≡◌, ◌↔◌, ℕ, ◌+◌, ◌*◌, ◌/◌, ◌%◌, ◌<◌, ◌≤◌, eqb, List, [], length, get_or, Option, Some, None, Result, Ok, refl, ap, sym, ◌∙◌, subst, arith}
use Rattle.std.specs.Prelude.{IsSome}
use Rattle.std.specs.Option.{IsSomeAnd, option_map}
use Rattle.std.specs.List.{Contains, IsDistinct}
use Rattle.std.proofs.lemmas.Bool.Decides.{Decides-eqb}
use Rattle.std.proofs.lemmas.Grind.{common_steps}
use Rattle.std.proofs.lemmas.List.{get_or-map, length-map}
use Rattle.std.proofs.lemmas.List.Elements.{All-contains}
use Rattle.std.proofs.lemmas.Map.Made.{IsDistinct-from_AllPairs, is_member-Decides}
use Rattle.std.proofs.lemmas.Map.Steps.{length-le_from_distinct_below}
use Rattle.elf_records.proofs.Items.{lies}
use Rattle.elf_records.specs.Class.{address_bits}
use Rattle.elf_parts.specs.GnuFind.{GnuTable}
use Rattle.elf_parts.specs.Hash.{gnu_hash_of, sysv_hash_of, word_at, word_count}
use Rattle.elf_records.specs.Record.{record_by}
use Rattle.elf_parts.specs.SysvFind.{SysvTable}
use Rattle.elf_records.specs.Table.{Table, item_at}
use Rattle.elf_records.specs.Word.{u32_layout, u32_reads}
use Rattle.elf_records.specs.declared.parse.ParseError.{ParseError}
use Rattle.elf_records.specs.declared.symbol.Symbol.{Symbol}
use Rattle.elf_hash_check.proofs.Reading.{word_ok}
use Rattle.elf_hash_check.proofs.SysvScan.{before_end, visits_before}
use Rattle.elf_hash_check.specs.Indexed.{IndexedSysv, IsFirstNamed, IsLeastNamed}
use Rattle.elf_hash_check.specs.SoundGnu.{HasBothBits, InRun, RunsTo, SoundGnu, SoundWord}
use Rattle.elf_hash_check.specs.SoundSysv.{Belongs, EndsAt, SoundSysv, chain_word, value}
use Rattle.elf_hash_check.specs.WithSymbols.{WithSymbols, name_at, symbol_and_name, word}
use Rattle.elf_laws.proofs.Grouped.{bits_set, half_of_run_word, leads}
use Rattle.elf_laws.proofs.PutIn.{Chained, Steps, whole_chain}
use Rattle.elf_laws.specs.Built.{IsBuiltGnu, IsBuiltSysv, gnu_bucket, gnu_hashes, name_in, run_word, sysv_bucket}

-- ---- options

some_such : {A : Type 0} (o : Option A) (x : A) (P : A → Type 0) → o ≡ Some x → P x → IsSomeAnd o P
some_such {A = A} o x P e h =
    let Q : Option A → Type 0 = λ p. IsSomeAnd p P in
    subst Q (sym e) h

-- the name of a symbol is such
name_such : (o : Option (Symbol × List ℕ)) (name : List ℕ) (P : List ℕ → Type 0) →
    option_map (λ (found : Symbol × List ℕ). found.1) o ≡ Some name → P name → IsSomeAnd o (λ found. P found.1)
name_such None name P e h = cc e
name_such (Some found) name P e h = let same : found.1 ≡ name = cc e in subst P (sym same) h

-- ---- SysV

module _ (names : List (List ℕ)) (put : List ℕ) (s : WithSymbols SysvTable) (built : IsBuiltSysv names put s) where
  abbrev bucket_of : ℕ → ℕ
  bucket_of index = sysv_bucket (word_count s.table.buckets) names index

  distinct : IsDistinct eqb put
  distinct = IsDistinct-from_AllPairs Decides-eqb put built.1.once

  symbol : (index : ℕ) → Contains put index → (0 < index) × (index < length names)
  symbol index h =
      let P : ℕ → Type 0 = λ i. (0 < i) × (i < length names) in
      All-contains P put index built.1.there h

  -- the symbols that are put in are no more than the chain words
  few : length put ≤ word_count s.table.chains
  few =
      let all =
      length-le_from_distinct_below put (length names) distinct (λ q e.
      (symbol q ((is_member-Decides Decides-eqb put q).0 e)).1) in
      omega (arith, all, built.0.1.0)

  steps : (bucket : ℕ) → Steps bucket_of put bucket (value s.table bucket)
  steps bucket j x member at = ap (chain_word s.table.chains) at ∙ built.0.1.1 x (symbol x member).1

  chain : (bucket : ℕ) → bucket < word_count s.table.buckets →
      Chained bucket_of put bucket (value s.table bucket) put 0
  chain bucket below =
      let start = built.0.0.1 bucket below in
      whole_chain bucket_of put bucket (value s.table bucket) (steps bucket) distinct start

  -- the name of a symbol that was put in is such
  name_of : (index : ℕ) → Contains put index → (P : List ℕ → Type 0) → P (name_in names index) →
      IsSomeAnd (symbol_and_name s.symbols s.strings index) (λ found. P found.1)
  name_of index member P h =
      let N : ℕ → Type 0 = λ i. name_at s.symbols s.strings i ≡ Some (name_in names i) in
      let name = All-contains N put index built.1.named member in
      name_such (symbol_and_name s.symbols s.strings index) (name_in names index) P name h

  -- a symbol that was put in belongs to its bucket
  belongs : (bucket index : ℕ) → Contains put index → bucket_of index ≡ bucket → (0 < index) × Belongs s bucket index
  belongs bucket index member own =
      let there = symbol index member in
      let P : List ℕ → Type 0 = λ name. sysv_hash_of name % word_count s.table.buckets ≡ bucket in
      (there.0, (omega (arith, there.1, built.0.1.0), name_of index member P own))

  ends_there : (bucket : ℕ) (c : Chained bucket_of put bucket (value s.table bucket) put 0) → EndsAt s bucket c.last
  ends_there bucket c = (
    omega (arith, c.short, few),
    c.ends,
    λ i less.
        let v = c.visited i less in
        let P : ℕ → Type 0 = λ index. (0 < index) × Belongs s bucket index in
        some_such (value s.table bucket i) v.index P v.is (belongs bucket v.index v.member v.own),
  )

  pub sysv_sound : SoundSysv s
  sysv_sound bucket below = let c = chain bucket below in (c.last, ends_there bucket c)

  indexed_is_put : (index : ℕ) → IndexedSysv s.table index → Contains put index
  indexed_is_put index (bucket, j, below, visits) =
      let c = chain bucket below in
      let v = c.visited j (before_end s bucket c.last (ends_there bucket c) j visits.2) in
      let same : v.index ≡ index = cc (v.is, visits.1) in
      let P : ℕ → Type 0 = λ i. Contains put i in
      subst P same v.member

  put_is_indexed : (index : ℕ) → Contains put index → IndexedSysv s.table index
  put_is_indexed index member =
      let bucket = bucket_of index in
      let below : bucket < word_count s.table.buckets = omega (arith, built.1.some_bucket) in
      let c = chain bucket below in
      let r = c.reached index member refl in
      (bucket, r.0, below, visits_before s bucket c.last (ends_there bucket c) r.0 r.1 index r.2)

  pub sysv_indexed : (index : ℕ) → IndexedSysv s.table index ↔ Contains put index
  sysv_indexed index = (indexed_is_put index, put_is_indexed index)

  pub sysv_found : (index : ℕ) → Contains put index → (found : Option (ℕ × Symbol)) →
      IsFirstNamed s (name_in names index) found → IsSome found
  sysv_found index member (Some found) first = refl
  sysv_found index member None none =
      let P : List ℕ → Type 0 = λ name. name ≡ name_in names index in
      absurd (none index (put_is_indexed index member, name_of index member P refl))

-- ---- GNU

item_ok : {A : Type 0} (gives : List ℕ → ℕ → Result A ParseError) (size : ℕ) (bytes : List ℕ) (i : ℕ) (x : A) →
    item_at gives size bytes i ≡ Ok x → gives bytes (i * size) ≡ Ok x
item_ok gives size bytes i x e = grind (arith, common_steps)

-- a word that can be read is one of those that are counted
pub word_counted : (words : Table) (i w : ℕ) → word words i ≡ Some w → i < word_count words
unfolding word_at
word_counted words i w e =
    let law = lies u32_reads words.little words.class in
    let gives = record_by u32_layout words.little words.class in
    let there = law.within words.bytes (i * 4) w (item_ok gives 4 words.bytes i w (word_ok words i w e)) in
    omega (arith, there)

module _ (names : List (List ℕ)) (s : WithSymbols GnuTable) (built : IsBuiltGnu names s) where
  abbrev hashes : List ℕ
  hashes = gnu_hashes names

  length_of_hashes : length hashes ≡ length names
  length_of_hashes = length-map names gnu_hash_of

  -- hash k is that of name k
  hash_is : (k : ℕ) → k < length hashes → get_or hashes k 0 ≡ gnu_hash_of (name_in names k)
  hash_is k below = get_or-map gnu_hash_of names k [] 0 (omega (arith, below, length_of_hashes))

  both_bits_set : (k : ℕ) → k < length hashes → HasBothBits s.table (get_or hashes k 0)
  both_bits_set k below =
      let bits = address_bits s.table.bloom.class in
      let nbloom = s.table.hdr.nbloom in
      let place = get_or hashes k 0 / bits % nbloom in
      let inside : place < nbloom = omega (arith, built.1.some_bloom) in
      let set = bits_set bits nbloom s.table.hdr.nshift hashes k below in
      (built.1.some_bloom, some_such _ _ _ (built.0.bloom place inside) set)

  in_run : (k : ℕ) → k < length hashes → InRun s.table k (get_or hashes k 0)
  in_run k below =
      let nbucket = word_count s.table.buckets in
      let first = s.table.hdr.table_start_idx in
      let l = leads nbucket hashes built.1.grouped k below in
      let inside : gnu_bucket nbucket hashes k < nbucket = omega (arith, built.1.some_bucket) in
      let is = built.0.buckets.1 (gnu_bucket nbucket hashes k) inside ∙ ap Some (l.word first) in (
        built.1.some_bucket,
        some_such _ (first + l.from) (RunsTo s.table k) is (
          omega arith,
          omega (arith, l.up_to),
          λ j v at to e.
              let same : v ≡ run_word nbucket hashes j = cc (e, built.0.chains.1 j (omega (arith, to, below))) in
              ap (λ n. n % 2) same ∙ l.even j (omega (arith, at)) to,
        ),
      )

  sound_word : (k w : ℕ) → word s.table.chains k ≡ Some w → SoundWord s k w
  sound_word k w e =
      let nbucket = word_count s.table.buckets in
      let first = s.table.hdr.table_start_idx in
      let below : k < length hashes = omega (arith, word_counted s.table.chains k w e, built.0.chains.0) in
      let named_k : k < length names = omega (arith, below, length_of_hashes) in
      let is : w ≡ run_word nbucket hashes k = cc (e, built.0.chains.1 k below) in
      let half : w / 2 ≡ get_or hashes k 0 / 2 = ap (λ n. n / 2) is ∙ half_of_run_word nbucket hashes k in
      let P : ℕ → Type 0 = λ hash. (w / 2 ≡ hash / 2) × HasBothBits s.table hash × InRun s.table k hash in
      let of_hash : P (get_or hashes k 0) = (half, both_bits_set k below, in_run k below) in
      let Q : List ℕ → Type 0 = λ name. P (gnu_hash_of name) in
      name_such (symbol_and_name s.symbols s.strings (first + k)) (name_in names k) Q (built.1.named k named_k)
      (subst P (hash_is k below) of_hash)

  pub gnu_sound : SoundGnu s
  gnu_sound = (built.1.shift, sound_word)

  pub gnu_found : (k : ℕ) → k < length names → (found : Option (ℕ × Symbol)) →
      IsLeastNamed s (name_in names k) found → IsSome found
  gnu_found k below (Some found) least = refl
  gnu_found k below None none =
      let first = s.table.hdr.table_start_idx in
      let P : List ℕ → Type 0 = λ name. name ≡ name_in names k in
      let within : first + k < first + word_count s.table.chains =
      omega (arith, below, length_of_hashes, built.0.chains.0) in
      let name = name_such (symbol_and_name s.symbols s.strings (first + k)) (name_in names k) P (built.1.named k below) refl in
      absurd (none (first + k) ((omega arith, within), name))
