-- The bytes of a GNU section that a linker writes.
use Rattle.std.proofs.Common.{◌≡◌, ℕ, ◌+◌, ◌*◌, ◌/◌, ◌%◌, ◌<◌, ◌≤◌, ◌^◌, Bool, List, [], ◌∷◌, ◌++◌, length, drop, Some, Ok, eqb, refl, ap, sym, ◌∙◌, subst, inl, inr, lit≤, arith, append_assoc, length-append}
use Rattle.std.specs.Prelude.{slice_index}
use Rattle.std.specs.Result.{IsOkAnd}
use Rattle.std.proofs.lemmas.Bool.{cases_Bool, eqb-false}
use Rattle.std.proofs.lemmas.List.{drop_at, get_or-map, length-map}
use Rattle.std.proofs.lemmas.List.Sums.{prefix_len-le-length}
use Rattle.std.proofs.lemmas.Nat.{or_lt, pow_below}
use Rattle.elf_records.proofs.Items.{lies}
use Rattle.elf_parts.proofs.ReadStructs.{gnu_header_is_struct, u64_is_struct}
use Rattle.elf_records.specs.Class.{address_bits, address_size}
use Rattle.elf_parts.specs.GnuFind.{GnuTable, bloom_word, gnu_section}
use Rattle.elf_parts.specs.Hash.{gnu_hash_from, gnu_hash_of, gnu_header_layout, long_word_at, word_at, word_count}
use Rattle.elf_records.specs.Number.{bytes_at}
use Rattle.elf_records.specs.Record.{record_by}
use Rattle.elf_parts.specs.Structs.{gnu_header_struct}
use Rattle.elf_records.specs.Table.{Table, table_in}
use Rattle.elf_records.specs.Word.{u64_layout, u64_reads}
use Rattle.elf_parts.specs.Written.{Fits, struct_bytes, table_of}
use Rattle.elf_records.specs.declared.file.Class.{Class}
use Rattle.elf_records.specs.declared.file.Class.TheVariants.{ELF32, ELF64}
use Rattle.elf_parts.specs.declared.hash.gnu.GnuHashHeader.{GnuHashHeader}
use Rattle.elf_hash_check.specs.SoundGnu.{SoundGnu}
use Rattle.elf_hash_check.specs.WithSymbols.{bloom, with_symbols, word}
use Rattle.elf_laws.proofs.BuiltBytes.{all_fit, item_written, length_words, length_written, words_written}
use Rattle.elf_laws.proofs.BuiltSound.{gnu_sound}
use Rattle.elf_laws.proofs.WrittenFiles.{bytes_lie, three_steps}
use Rattle.elf_laws.specs.Built.{AreWords, CanWrite, IsBuiltGnu, bloom_of_all, both_bits, bucket_word, ends_bucket, first_in, gnu_hashes, name_in, run_word}
use Rattle.elf_laws.specs.BuiltBytes.{all_below, bloom_bytes, gnu_section_bytes, one_word, one_xword}
use Rattle.elf_laws.specs.WrittenFiles.{LieAt}

-- ---- no word is too great

hash_from_lt : (h : ℕ) (bytes : List ℕ) → h < 2 ^ 32 → gnu_hash_from h bytes < 2 ^ 32
hash_from_lt h [] small = small
hash_from_lt h (byte ∷ bytes) small = hash_from_lt ((33 * h + byte) % 2 ^ 32) bytes (omega arith)

hash_lt : (name : List ℕ) → gnu_hash_of name < 2 ^ 32
unfolding gnu_hash_of
hash_lt name = hash_from_lt 5381 name (lit≤ tt)

hash_at_lt : (names : List (List ℕ)) (k : ℕ) → k < length (gnu_hashes names) →
    slice_index (gnu_hashes names) k < 2 ^ 32
hash_at_lt names k below =
    let P : ℕ → Type 0 = λ n. n < 2 ^ 32 in
    let is = get_or-map gnu_hash_of names k [] 0 (omega (arith, below, length-map names gnu_hash_of)) in
    subst P (sym is) (hash_lt (name_in names k))

run_word_lt : (nbucket : ℕ) (hashes : List ℕ) (k : ℕ) → slice_index hashes k < 2 ^ 32 →
    run_word nbucket hashes k < 2 ^ 32
run_word_lt nbucket hashes k small = elim (cases_Bool (ends_bucket nbucket hashes k)) [
  | inl last ↦ rw last (omega (arith, small))
  | inr more ↦ rw more (omega (arith, small))
]

bucket_word_lt : (nbucket : ℕ) (hashes : List ℕ) (first bucket : ℕ) → first + length hashes ≤ 2 ^ 32 →
    bucket_word nbucket hashes first bucket < 2 ^ 32
bucket_word_lt nbucket hashes first bucket small =
    let most : first_in nbucket hashes bucket ≤ length hashes = prefix_len-le-length _ hashes in
    elim (cases_Bool (eqb (first_in nbucket hashes bucket) (length hashes))) [
      | inl none ↦ rw none (lit≤ tt)
      | inr some ↦
          let other : first_in nbucket hashes bucket ≡ length hashes → ⊥ = eqb-false (first_in nbucket hashes bucket)
          (length hashes) some in
          let less : first_in nbucket hashes bucket < length hashes = omega (arith, most, other) in
          rw some (omega (arith, less, small))
    ]

both_bits_lt : (bits nbloom shift hash : ℕ) → 0 < bits → both_bits bits nbloom shift hash < 2 ^ bits
both_bits_lt bits nbloom shift hash some =
    let one = pow_below (hash % bits) bits (omega (arith, some)) in
    let two = pow_below (hash / 2 ^ shift % bits) bits (omega (arith, some)) in
    or_lt bits (2 ^ (hash % bits)) (2 ^ (hash / 2 ^ shift % bits)) one two

bloom_lt : (bits nbloom shift : ℕ) (hashes : List ℕ) (place : ℕ) → 0 < bits → 0 < 2 ^ bits →
    bloom_of_all bits nbloom shift hashes place < 2 ^ bits
bloom_lt bits nbloom shift [] place some power = power
bloom_lt bits nbloom shift (hash ∷ hashes) place some power =
    let rest = bloom_lt bits nbloom shift hashes place some power in
    elim (cases_Bool (eqb (hash / bits % nbloom) place)) [
      | inl here ↦
          let two = both_bits_lt bits nbloom shift hash some in
          rw here (or_lt bits (both_bits bits nbloom shift hash) (bloom_of_all bits nbloom shift hashes place) two rest)
      | inr there ↦ rw there rest
    ]

-- ---- the bloom words

length_bloom : (little : Bool) (class : Class) (count : ℕ) (at : ℕ → ℕ) →
    length (bloom_bytes little class (all_below count at)) ≡ address_size class * count
length_bloom little ELF32 count at = length_words little ELF32 count at
length_bloom little ELF64 count at = length_written u64_layout one_xword u64_is_struct little ELF64 count at

bloom_written : (little : Bool) (class : Class) (count : ℕ) (at : ℕ → ℕ) → ((i : ℕ) → at i < 2 ^ address_bits class) →
    count < 2 ^ 32 → (i : ℕ) → i < count →
    bloom (table_in little class (bloom_bytes little class (all_below count at))) i ≡ Some (at i)
unfolding word word_at long_word_at bloom bloom_word
bloom_written little ELF32 count at small few i below =
    let words = words_written little ELF32 count at (λ k _. small k) (omega (arith, few)) in words.1 i below
bloom_written little ELF64 count at small few i below =
    let law = lies u64_reads little ELF64 in
    let fit = all_fit 8 count at (λ k _. small k) in
    item_written u64_layout one_xword u64_is_struct little ELF64 law count at fit (omega (arith, few)) i below

-- ---- the section

-- the table of these parts
abbrev table_of_parts : Bool → Class → GnuHashHeader → List ℕ → List ℕ → List ℕ → GnuTable
table_of_parts little class h words buckets chains = record {
  hdr = h;
  bloom = table_in little class words;
  buckets = table_in little class buckets;
  chains = table_in little class chains;
}

cut : (little : Bool) (class : Class) (h : GnuHashHeader) (words buckets chains : List ℕ) →
    Fits (gnu_header_struct h) → length words ≡ address_size class * h.nbloom → length buckets ≡ 4 * h.nbucket →
    16 + address_size class * h.nbloom + 4 * h.nbucket + length chains < 2 ^ 64 →
    gnu_section little class (struct_bytes little (gnu_header_struct h) ++ (words ++ (buckets ++ chains)))
    ≡ Ok (table_of_parts little class h words buckets chains)
unfolding gnu_section
cut little class h words buckets chains fit long_words long_buckets short =
    let front : List ℕ = struct_bytes little (gnu_header_struct h) in
    let bytes : List ℕ = front ++ (words ++ (buckets ++ chains)) in
    let sixteen : length front ≡ 16 = gnu_header_is_struct.1 little class h in
    let l1 = length-append front (words ++ (buckets ++ chains)) in
    let l2 = length-append words (buckets ++ chains) in
    let l3 = length-append buckets chains in
    let l4 = length-append front words in
    let l5 = length-append (front ++ words) buckets in
    let small : length bytes < 2 ^ 64 = omega (arith, sixteen, l1, l2, l3, long_words, long_buckets, short) in
    let split : bytes ≡ (front ++ words) ++ (buckets ++ chains) =
    sym (append_assoc front words (buckets ++ chains)) in
    let split_again : bytes ≡ ((front ++ words) ++ buckets) ++ chains =
    split ∙ sym (append_assoc (front ++ words) buckets chains) in
    let first : LieAt words bytes 16 =
    record { before = front; behind = buckets ++ chains; at = sixteen; is = refl } in
    let second : LieAt buckets bytes (16 + address_size class * h.nbloom) =
    record { before = front ++ words; behind = chains; at = omega (arith, l4, sixteen, long_words); is = split } in
    let rest : drop (16 + address_size class * h.nbloom + 4 * h.nbucket) bytes ≡ chains =
    ap (λ (xs : List ℕ). drop (16 + address_size class * h.nbloom + 4 * h.nbucket) xs) split_again
    ∙ drop_at ((front ++ words) ++ buckets) chains (16 + address_size class * h.nbloom + 4 * h.nbucket)
    (omega (arith, l4, l5, sixteen, long_words, long_buckets)) in
    let make : GnuHashHeader → List ℕ → List ℕ → GnuTable =
    λ x y z. table_of_parts little class x y z (drop (16 + address_size class * x.nbloom + 4 * x.nbucket) bytes) in
    three_steps (record_by gnu_header_layout little class bytes 0)
    (λ x. bytes_at (address_size class * x.nbloom) bytes 16)
    (λ x. bytes_at (4 * x.nbucket) bytes (16 + address_size class * x.nbloom))
    make h words buckets
    (gnu_header_is_struct.0 little class h [] (words ++ (buckets ++ chains)) fit (lit≤ tt))
    (bytes_lie words bytes 16 (address_size class * h.nbloom) small long_words first)
    (bytes_lie buckets bytes (16 + address_size class * h.nbloom) (4 * h.nbucket) small long_buckets second)
    ∙ ap (λ (xs : List ℕ). Ok (table_of_parts little class h words buckets xs)) rest

-- the number of bits of a bloom word
some_bits : (class : Class) → (0 < address_bits class) × (0 < 2 ^ address_bits class)
some_bits ELF32 = (lit≤ tt, lit≤ tt)
some_bits ELF64 = (lit≤ tt, lit≤ tt)

few_bytes : (class : Class) (count : ℕ) → count < 2 ^ 32 → address_size class * count < 2 ^ 36
few_bytes ELF32 count few = omega (arith, few)
few_bytes ELF64 count few = omega (arith, few)

module _ (little : Bool) (class : Class) (h : GnuHashHeader) (names : List (List ℕ)) (symbols : Table)
    (strings : List ℕ) where
  abbrev hashes : List ℕ
  hashes = gnu_hashes names

  abbrev bloom_at : ℕ → ℕ
  bloom_at place = bloom_of_all (address_bits class) h.nbloom h.nshift hashes place

  abbrev bucket_at : ℕ → ℕ
  bucket_at bucket = bucket_word h.nbucket hashes h.table_start_idx bucket

  abbrev chain_at : ℕ → ℕ
  chain_at k = run_word h.nbucket hashes k

  -- the table of such bytes
  abbrev table : GnuTable
  table =
      table_of_parts little class h (bloom_bytes little class (all_below h.nbloom bloom_at))
      (table_of little one_word (all_below h.nbucket bucket_at))
      (table_of little one_word (all_below (length hashes) chain_at))

  built : Fits (gnu_header_struct h) → h.table_start_idx + length names ≤ 2 ^ 32 →
      CanWrite h h.nbucket names symbols strings →
      IsBuiltGnu names (record { table = table; symbols = symbols; strings = strings })
  built fit few can =
      let long : length hashes ≡ length names = length-map names gnu_hash_of in
      let bits = some_bits class in
      let bloom_words =
      bloom_written little class h.nbloom bloom_at (λ i.
      bloom_lt (address_bits class) h.nbloom h.nshift hashes i bits.0 bits.1) fit.1.1.0 in
      let bucket_words =
      words_written little class h.nbucket bucket_at (λ i _.
      bucket_word_lt h.nbucket hashes h.table_start_idx i (omega (arith, few, long))) (omega (arith, fit.0)) in
      let chain_words =
      words_written little class (length hashes) chain_at (λ i below.
      run_word_lt h.nbucket hashes i (hash_at_lt names i below)) (omega (arith, few, long)) in
      let B : ℕ → Type 0 = λ n. AreWords table.buckets n (bucket_word n hashes h.table_start_idx) in
      let C : ℕ → Type 0 = λ n. AreWords table.chains (length hashes) (run_word n hashes) in
      let W : ℕ → Type 0 = λ n. CanWrite h n names symbols strings in
      let counted : h.nbucket ≡ word_count table.buckets = sym bucket_words.0 in
      let buckets = subst B counted bucket_words in
      let chains = subst C counted chain_words in
      (record { bloom = bloom_words; buckets = buckets; chains = chains }, subst W counted can)

  pub gnu_bytes_built : Fits (gnu_header_struct h) → h.table_start_idx + length names ≤ 2 ^ 32 →
      CanWrite h h.nbucket names symbols strings →
      let cut = gnu_section little class (gnu_section_bytes little class h (gnu_hashes names)) in
      IsOkAnd (with_symbols symbols strings cut) (λ s. IsBuiltGnu names s × SoundGnu s)
  gnu_bytes_built fit few can =
      let long : length hashes ≡ length names = length-map names gnu_hash_of in
      let b = built fit few can in
      let chains : List ℕ = table_of little one_word (all_below (length hashes) chain_at) in
      let long_chains : length chains ≡ 4 * length hashes = length_words little class (length hashes) chain_at in
      let few_blooms = few_bytes class h.nbloom fit.1.1.0 in
      let words : List ℕ = bloom_bytes little class (all_below h.nbloom bloom_at) in
      let buckets : List ℕ = table_of little one_word (all_below h.nbucket bucket_at) in
      let long_words = length_bloom little class h.nbloom bloom_at in
      let long_buckets = length_words little class h.nbucket bucket_at in
      let short : 16 + address_size class * h.nbloom + 4 * h.nbucket + length chains < 2 ^ 64 =
      omega (arith, few_blooms, fit.0, few, long, long_chains) in
      let e = cut little class h words buckets chains fit long_words long_buckets short in
      rw e (b, gnu_sound names (record { table = table; symbols = symbols; strings = strings }) b)
