-- The bytes that a linker writes are a section with the words that it builds.
use Rattle.std.proofs.Common.{◌≡◌, ℕ, ◌+◌, ◌*◌, ◌<◌, ◌≤◌, ◌^◌, suc, Bool, List, [], ◌∷◌, ◌++◌, length, get_or, slice_get, Some, Ok, eqb, refl, ap, sym, ◌∙◌, subst, inl, inr, lit≤, arith, append_assoc, length-append}
use Rattle.std.specs.Result.{IsOkAnd, result_ok}
use Rattle.std.specs.List.{Contains}
use Rattle.std.proofs.lemmas.Bool.{cases_Bool}
use Rattle.std.proofs.lemmas.List.{append-nil}
use Rattle.std.proofs.lemmas.List.Elements.{All-contains}
use Rattle.std.proofs.lemmas.List.FromFn.{get_or-map-range_with_len, length-map-range_with_len}
use Rattle.std.proofs.lemmas.Option.{slice_get-get_or}
use Rattle.elf_records.proofs.Items.{LiesWithin, lies}
use Rattle.elf_records.proofs.Places.{slice_get-items}
use Rattle.elf_parts.proofs.ReadStructs.{sysv_header_is_struct, u32_is_struct}
use Rattle.elf_parts.specs.Hash.{sysv_header_layout, word_at, word_count}
use Rattle.elf_records.specs.Number.{bytes_at}
use Rattle.elf_records.specs.Record.{Layout, record_by, size_by}
use Rattle.elf_parts.specs.Structs.{sysv_header_struct}
use Rattle.elf_parts.specs.SysvFind.{SysvTable, sysv_section}
use Rattle.elf_records.specs.Table.{Table, item_at, items, table_in}
use Rattle.elf_records.specs.Word.{u32_layout, u32_reads}
use Rattle.elf_parts.specs.Written.{AllFit, Fits, IsStruct, Member, Unsigned, struct_bytes, table_of}
use Rattle.elf_records.specs.declared.file.Class.{Class}
use Rattle.elf_parts.specs.declared.hash.sysv.SysVHashHeader.{SysVHashHeader}
use Rattle.elf_hash_check.specs.SoundSysv.{SoundSysv}
use Rattle.elf_hash_check.specs.WithSymbols.{with_symbols, word}
use Rattle.elf_laws.proofs.BuiltSound.{sysv_sound}
use Rattle.elf_laws.proofs.PutIn.{head_in, tail_in}
use Rattle.elf_laws.proofs.WrittenFiles.{bytes_lie, length-table, three_steps}
use Rattle.elf_laws.specs.Built.{AreWords, CanPutIn, IsBuiltSysv, bucket_after, chain_after, sysv_bucket}
use Rattle.elf_laws.specs.BuiltBytes.{all_below, one_word, sysv_section_bytes}
use Rattle.elf_laws.specs.WrittenFiles.{LieAt}

-- ---- words that are written

-- words of n bytes fit
module _ (width : ℕ) where
  fit_from : (ws : List ℕ) → ((i : ℕ) → i < length ws → get_or ws i 0 < 256 ^ width) →
      AllFit (λ n. Unsigned width n ∷ []) ws
  fit_from [] small = tt
  fit_from (w ∷ ws) small =
      let later = fit_from ws (λ i below. small (suc i) (omega (arith, below))) in
      ((small 0 (omega arith), tt), later)

  pub all_fit : (count : ℕ) (at : ℕ → ℕ) → ((i : ℕ) → i < count → at i < 256 ^ width) →
      AllFit (λ n. Unsigned width n ∷ []) (all_below count at)
  all_fit count at small = fit_from (all_below count at) (λ i below.
      let inside : i < count = omega (arith, below, length-map-range_with_len at 0 count) in
      let P : ℕ → Type 0 = λ n. n < 256 ^ width in
      subst P (sym (get_or-map-range_with_len at 0 count i i 0 inside (omega arith))) (small i inside))

module _ (layout : Layout ℕ) (struct : ℕ → List Member) (is : IsStruct layout (λ _. struct)) (little : Bool)
    (class : Class) where
  pub length_written : (count : ℕ) (at : ℕ → ℕ) →
      length (table_of little struct (all_below count at)) ≡ size_by layout class * count
  length_written count at =
      length-table layout (λ _. struct) is little class (all_below count at)
      ∙ ap (λ n. size_by layout class * n) (length-map-range_with_len at 0 count)

  -- each is read at the offset at which it was written
  pub item_written : LiesWithin (record_by layout little class) (size_by layout class) → (count : ℕ) (at : ℕ → ℕ) →
      AllFit struct (all_below count at) → size_by layout class * count < 2 ^ 64 → (i : ℕ) → i < count →
      let bytes = table_of little struct (all_below count at) in
      result_ok (item_at (record_by layout little class) (size_by layout class) bytes i) ≡ Some (at i)
  item_written law count at fit short i below =
      let ws : List ℕ = all_below count at in
      let bytes : List ℕ = table_of little struct ws in
      let long = length_written count at in
      let gives = record_by layout little class in
      let size = size_by layout class in
      let small : length bytes < 2 ^ 64 = omega (arith, long, short) in
      let all : items gives size bytes ≡ ws = is.2 little class ws fit small in
      let inside : i < length ws = omega (arith, below, length-map-range_with_len at 0 count) in
      let most : i ≤ length (items gives size bytes) = rw all (omega (arith, inside)) in
      sym (slice_get-items gives size bytes i law small most)
      ∙ ap (λ (xs : List ℕ). slice_get xs i) all
      ∙ slice_get-get_or ws i 0 inside
      ∙ ap Some (get_or-map-range_with_len at 0 count i i 0 below (omega arith))

pub length_words : (little : Bool) (class : Class) (count : ℕ) (at : ℕ → ℕ) →
    length (table_of little one_word (all_below count at)) ≡ 4 * count
length_words little class count at = length_written u32_layout one_word u32_is_struct little class count at

pub words_written : (little : Bool) (class : Class) (count : ℕ) (at : ℕ → ℕ) →
    ((i : ℕ) → i < count → at i < 2 ^ 32) → 4 * count < 2 ^ 64 →
    AreWords (table_in little class (table_of little one_word (all_below count at))) count at
unfolding word word_at
words_written little class count at small short =
    let long = length_words little class count at in
    let law = lies u32_reads little class in
    let fit = all_fit 4 count at small in
    (omega (arith, long), item_written u32_layout one_word u32_is_struct little class law count at fit short)

-- ---- SysV

cut : (little : Bool) (class : Class) (h : SysVHashHeader) (buckets chains : List ℕ) → Fits (sysv_header_struct h) →
    length buckets ≡ 4 * h.nbucket → length chains ≡ 4 * h.nchain → 8 + 4 * h.nbucket + 4 * h.nchain < 2 ^ 64 →
    sysv_section little class (struct_bytes little (sysv_header_struct h) ++ (buckets ++ chains))
    ≡ Ok (record { buckets = table_in little class buckets; chains = table_in little class chains })
unfolding sysv_section
cut little class h buckets chains fit long_buckets long_chains short =
    let front : List ℕ = struct_bytes little (sysv_header_struct h) in
    let bytes : List ℕ = front ++ (buckets ++ chains) in
    let eight : length front ≡ 8 = sysv_header_is_struct.1 little class h in
    let whole = length-append front (buckets ++ chains) in
    let parts = length-append buckets chains in
    let joined = length-append front buckets in
    let small : length bytes < 2 ^ 64 = omega (arith, eight, whole, parts, long_buckets, long_chains, short) in
    let first : LieAt buckets bytes 8 = record { before = front; behind = chains; at = eight; is = refl } in
    let split : bytes ≡ (front ++ buckets) ++ (chains ++ []) =
    sym (append_assoc front buckets chains)
    ∙ ap (λ (xs : List ℕ). (front ++ buckets) ++ xs) (sym (append-nil chains)) in
    let second : LieAt chains bytes (8 + 4 * h.nbucket) =
    record { before = front ++ buckets; behind = []; at = omega (arith, joined, eight, long_buckets); is = split } in
    three_steps (record_by sysv_header_layout little class bytes 0) (λ x. bytes_at (4 * x.nbucket) bytes 8)
    (λ x. bytes_at (4 * x.nchain) bytes (8 + 4 * x.nbucket))
    (λ x y z. record { buckets = table_in little class y; chains = table_in little class z })
    h buckets chains
    (sysv_header_is_struct.0 little class h [] (buckets ++ chains) fit (lit≤ tt))
    (bytes_lie buckets bytes 8 (4 * h.nbucket) small long_buckets first)
    (bytes_lie chains bytes (8 + 4 * h.nbucket) (4 * h.nchain) small long_chains second)

-- no word is greater than what was put in
bucket_after_lt : (bucket_of : ℕ → ℕ) (bound : ℕ) (put : List ℕ) → 0 < bound →
    ((k : ℕ) → Contains put k → k < bound) → (bucket : ℕ) → bucket_after bucket_of put bucket < bound
bucket_after_lt bucket_of bound [] some below bucket = some
bucket_after_lt bucket_of bound (index ∷ earlier) some below bucket =
    let later = bucket_after_lt bucket_of bound earlier some (λ k h. below k (tail_in index k earlier h)) bucket in
    elim (cases_Bool (eqb (bucket_of index) bucket)) [
      | inl own ↦ rw own (below index (head_in index earlier))
      | inr other ↦ rw other later
    ]

chain_after_lt : (bucket_of : ℕ → ℕ) (bound : ℕ) (put : List ℕ) → 0 < bound →
    ((k : ℕ) → Contains put k → k < bound) → (symbol : ℕ) → chain_after bucket_of put symbol < bound
chain_after_lt bucket_of bound [] some below symbol = some
chain_after_lt bucket_of bound (index ∷ earlier) some below symbol =
    let lower = λ (k : ℕ) (h : Contains earlier k). below k (tail_in index k earlier h) in
    elim (cases_Bool (eqb index symbol)) [
      | inl here ↦ rw here (bucket_after_lt bucket_of bound earlier some lower (bucket_of index))
      | inr there ↦ rw there (chain_after_lt bucket_of bound earlier some lower symbol)
    ]

module _ (little : Bool) (class : Class) (nbucket : ℕ) (names : List (List ℕ)) (put : List ℕ) (symbols : Table)
    (strings : List ℕ) where
  abbrev bucket_at : ℕ → ℕ
  bucket_at bucket = bucket_after (sysv_bucket nbucket names) put bucket

  abbrev chain_at : ℕ → ℕ
  chain_at symbol = chain_after (sysv_bucket nbucket names) put symbol

  -- the table of such bytes
  abbrev table : SysvTable
  table = record {
    buckets = table_in little class (table_of little one_word (all_below nbucket bucket_at));
    chains = table_in little class (table_of little one_word (all_below (length names) chain_at));
  }

  built : nbucket < 2 ^ 32 → length names < 2 ^ 32 → CanPutIn nbucket names put symbols strings →
      IsBuiltSysv names put (record { table = table; symbols = symbols; strings = strings })
  built few_buckets few_names can =
      let bucket_of : ℕ → ℕ = sysv_bucket nbucket names in
      let I : ℕ → Type 0 = λ index. (0 < index) × (index < length names) in
      let below : (k : ℕ) → Contains put k → k < 2 ^ 32 =
      λ k h. let there = All-contains I put k can.there h in omega (arith, there.1, few_names) in
      let bucket_words =
      words_written little class nbucket bucket_at (λ i _.
      bucket_after_lt bucket_of (2 ^ 32) put (lit≤ tt) below i) (omega (arith, few_buckets)) in
      let chain_words =
      words_written little class (length names) chain_at (λ i _.
      chain_after_lt bucket_of (2 ^ 32) put (lit≤ tt) below i) (omega (arith, few_names)) in
      let P : ℕ → Type 0 = λ n.
      AreWords table.buckets n (bucket_after (sysv_bucket n names) put)
      × AreWords table.chains (length names) (chain_after (sysv_bucket n names) put) in
      let C : ℕ → Type 0 = λ n. CanPutIn n names put symbols strings in
      let counted : nbucket ≡ word_count table.buckets = sym bucket_words.0 in
      (subst P counted (bucket_words, chain_words), subst C counted can)

  pub sysv_bytes_built : nbucket < 2 ^ 32 → length names < 2 ^ 32 → CanPutIn nbucket names put symbols strings →
      let cut = sysv_section little class (sysv_section_bytes little nbucket names put) in
      IsOkAnd (with_symbols symbols strings cut) (λ s. IsBuiltSysv names put s × SoundSysv s)
  sysv_bytes_built few_buckets few_names can =
      let h : SysVHashHeader = record { nbucket = nbucket; nchain = length names } in
      let b = built few_buckets few_names can in
      let buckets : List ℕ = table_of little one_word (all_below nbucket bucket_at) in
      let chains : List ℕ = table_of little one_word (all_below (length names) chain_at) in
      let long_buckets = length_words little class nbucket bucket_at in
      let long_chains = length_words little class (length names) chain_at in
      let short : 8 + 4 * nbucket + 4 * length names < 2 ^ 64 = omega (arith, few_buckets, few_names) in
      let e = cut little class h buckets chains (few_buckets, (few_names, tt)) long_buckets long_chains short in
      rw e (b, sysv_sound names put (record { table = table; symbols = symbols; strings = strings }) b)
