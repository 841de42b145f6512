-- What a sound GNU section finds.
use Rattle.std.proofs.Common.{◌≡◌, ℕ, ◌+◌, ◌-◌, ◌/◌, ◌%◌, ◌^◌, ◌<◌, ◌≤◌, zero, suc, true, false, nat_eq, nat_le, List, Option, Some, None, Ok, refl, ap, sym, ◌∙◌, subst, inl, inr, ◌⊎◌, arith}
use Rattle.std.specs.Option.{IsSomeAnd}
use Rattle.std.specs.Int.{bit_at}
use Rattle.std.specs.Str.{bytes_eq}
use Rattle.std.proofs.lemmas.Bool.{cases_Bool, cases_lt, false≢true}
use Rattle.std.proofs.lemmas.Grind.{common_steps}
use Rattle.std.proofs.lemmas.Slice.Eq.{bytes_eq-Decides}
use Rattle.elf_records.specs.declared.symbol.Symbol.{Symbol}
use Rattle.elf_parts.specs.Hash.{ReadsBelowCount, gnu_hash_of, named_symbol, word_at, word_count}
use Rattle.elf_records.specs.Class.{address_bits}
use Rattle.elf_parts.specs.GnuFind.{GnuTable, bloom_of, bloom_word, find_in_bucket, find_in_run, gnu_find, passes, word_decides}
use Rattle.elf_parts.proofs.Runs.{run_found, run_ended, run_limit, run_next}
use Rattle.elf_hash_check.specs.Indexed.{IsLeastNamed, ScanGnu}
use Rattle.elf_hash_check.specs.SoundGnu.{HasBothBits, InRun, SoundGnu}
use Rattle.elf_hash_check.specs.WithSymbols.{WithSymbols, bloom, symbol_and_name, word}
use Rattle.elf_hash_check.specs.inner.SoundProps.{GnuReads}
use Rattle.elf_hash_check.proofs.Reading.{word_some, named_some, named_ok, some_and, word_below, bloom_some, ok_value}

module _ (s : WithSymbols GnuTable) (name : List ℕ) where
  -- the symbol of chain word j has the name
  abbrev pub NamedAt : ℕ → Type 0
  NamedAt j = IsSomeAnd (symbol_and_name s.symbols s.strings (s.table.hdr.table_start_idx + j)) (λ found. found.1 ≡ name)

  -- no chain word from k up to j, j not included, ends a run
  abbrev pub NoEnd : ℕ → ℕ → Type 0
  NoEnd k j = (i v : ℕ) → k ≤ i → i < j → word s.table.chains i ≡ Some v → v % 2 ≡ 0

  -- what the run from place k finds
  pub record Nothing (k : ℕ) : Type 0 where
    pub none : (j : ℕ) → k ≤ j → j < word_count s.table.chains → NoEnd k j → NamedAt j → ⊥

  pub record Something (k : ℕ) (found : ℕ × Symbol) : Type 0 where
    pub place : ℕ
    pub index : found.0 ≡ s.table.hdr.table_start_idx + place
    pub from : k ≤ place
    pub inside : place < word_count s.table.chains
    pub symbol : symbol_and_name s.symbols s.strings found.0 ≡ Some (found.1, name)
    pub first : (m : ℕ) → k ≤ m → m < place → NamedAt m → ⊥

  abbrev pub RunAnswer : ℕ → Option (ℕ × Symbol) → Type 0
  RunAnswer k None = Nothing k
  RunAnswer k (Some found) = Something k found

  -- a symbol of another name decides nothing
  other_name : (index w : ℕ) (found : Symbol × List ℕ) → named_symbol s.symbols s.strings index ≡ Ok found → bytes_eq found.1 name ≡ false → word_decides s.table s.symbols s.strings name index w ≡ Ok None
  other_name index w found read other = elim (cases_Bool (nat_eq (w / 2) (gnu_hash_of name / 2))) [
    | inl same ↦ rw (same, read, other) refl
    | inr apart ↦ rw apart refl
  ]

  this_name : (index w : ℕ) (found : Symbol × List ℕ) → named_symbol s.symbols s.strings index ≡ Ok found → bytes_eq found.1 name ≡ true → w / 2 ≡ gnu_hash_of name / 2 → word_decides s.table s.symbols s.strings name index w ≡ Ok (Some (index, found.0))
  this_name index w found read same hash =
      let here : nat_eq (w / 2) (gnu_hash_of name / 2) ≡ true = grind (arith, common_steps) in
      rw (here, read, same) refl

  not_named : (j : ℕ) (found : Symbol × List ℕ) → named_symbol s.symbols s.strings (s.table.hdr.table_start_idx + j) ≡ Ok found → bytes_eq found.1 name ≡ false → NamedAt j → ⊥
  not_named j found read other has =
      let x = some_and (symbol_and_name s.symbols s.strings (s.table.hdr.table_start_idx + j)) _ has in
      let e : symbol_and_name s.symbols s.strings (s.table.hdr.table_start_idx + j) ≡ Some found = named_some s.symbols s.strings _ found read in
      let same : found.1 ≡ name = cc (x.1, x.2, e) in
      false≢true (sym other ∙ (bytes_eq-Decides found.1 name).1 same)

  -- what holds of a place, at the same place
  named_there : (j k : ℕ) → j ≡ k → NamedAt j → NamedAt k
  named_there j k e has = let P : ℕ → Type 0 = λ n. NamedAt n in subst P e has

  -- a run that is one place longer in front
  widen : (k : ℕ) (found : Option (ℕ × Symbol)) → (NamedAt k → ⊥) → RunAnswer (k + 1) found → RunAnswer k found
  widen k None other rest = record {
    none = λ j from inside no_end has. elim (cases_lt k j) [
      | inl more ↦ rest.none j (omega arith) inside (λ i v low high e. no_end i v (omega arith) high e) has
      | inr less ↦ other (named_there j k (omega arith) has)
    ];
  }
  widen k (Some found) other rest = record {
    place = rest.place;
    index = rest.index;
    from = omega (arith, rest.from);
    inside = rest.inside;
    symbol = rest.symbol;
    first = λ m low high has. elim (cases_lt k m) [
      | inl more ↦ rest.first m (omega arith) high has
      | inr less ↦ other (named_there m k (omega arith) has)
    ];
  }

  ended : (k w : ℕ) → word s.table.chains k ≡ Some w → w % 2 ≡ 1 → (NamedAt k → ⊥) → Nothing k
  ended k w chain odd other = record {
    none = λ j from inside no_end has. elim (cases_lt k j) [
      | inl more ↦ absurd (let even : w % 2 ≡ 0 = no_end k w (omega arith) more chain in omega (arith, even, odd))
      | inr less ↦ other (named_there j k (omega arith) has)
    ];
  }

  -- what a run finds, and that it is refused nothing
  pub record Run (limit k : ℕ) : Type 0 where
    pub found : Option (ℕ × Symbol)
    pub is : find_in_run s.table s.symbols s.strings name limit k ≡ Ok found
    pub answer : RunAnswer k found

  pub odd_or_even : (n : ℕ) → (n % 2 ≡ 0) ⊎ (n % 2 ≡ 1)
  odd_or_even n = elim (cases_lt (n % 2) 1) [ inl h ↦ inl (omega arith) | inr h ↦ inr (omega arith) ]

  one_place : (limit k w : ℕ) (found : Symbol × List ℕ) → word_at s.table.chains k ≡ Ok w → named_symbol s.symbols s.strings (s.table.hdr.table_start_idx + k) ≡ Ok found → w / 2 ≡ gnu_hash_of found.1 / 2 → k < word_count s.table.chains → Run limit (k + 1) → Run (suc limit) k
  one_place limit k w found chain read hash inside rest = elim (cases_Bool (bytes_eq found.1 name)) [
    | inl same ↦
        let e : found.1 ≡ name = (bytes_eq-Decides found.1 name).0 same in
        let here : w / 2 ≡ gnu_hash_of name / 2 = hash ∙ ap (λ n. gnu_hash_of n / 2) e in
        record {
          found = Some (s.table.hdr.table_start_idx + k, found.0);
          is = run_found s.table s.symbols s.strings name (suc limit) k w _ (omega arith) chain (this_name _ w found read same here);
          answer = record {
            place = k;
            index = refl;
            from = omega arith;
            inside = inside;
            symbol = named_some s.symbols s.strings _ found read ∙ ap (λ n. Some (found.0, n)) e;
            first = λ m low high has. absurd (omega arith);
          };
        }
    | inr other ↦
        let nothing = other_name (s.table.hdr.table_start_idx + k) w found read other in
        let apart = not_named k found read other in
        elim (odd_or_even w) [
          | inl even ↦ record {
            found = rest.found;
            is =
                let less : suc limit - 1 ≡ limit = omega arith in
                run_next s.table s.symbols s.strings name (suc limit) k w (omega arith) chain nothing even
                ∙ ap (λ n. find_in_run s.table s.symbols s.strings name n (k + 1)) less ∙ rest.is;
            answer = widen k rest.found apart rest.answer;
          }
          | inr odd ↦ record {
            found = None;
            is = run_ended s.table s.symbols s.strings name (suc limit) k w chain nothing odd;
            answer = ended k w (word_some s.table.chains k w chain) odd apart;
          }
        ]
  ]

  pub run_from : SoundGnu s → ReadsBelowCount s.table.chains → (limit k : ℕ) → k + limit ≡ word_count s.table.chains → Run limit k
  run_from sound reads zero k all = record {
    found = None;
    is = run_limit s.table s.symbols s.strings name zero k refl;
    answer = record { none = λ j from inside no_end has. absurd (omega arith) };
  }
  run_from sound reads (suc limit) k all =
      let w = word_below s.table.chains k reads (omega arith) in
      let here = some_and (symbol_and_name s.symbols s.strings (s.table.hdr.table_start_idx + k)) _ (sound.1 k w.0 (word_some s.table.chains k w.0 w.1)) in
      one_place limit k w.0 here.0 w.1 (named_ok s.symbols s.strings _ here.0 here.1) here.2.0 (omega arith) (run_from sound reads limit (k + 1) (omega arith))

  -- ---- the whole look-up

  -- an index that is to be found lies in the run of the name's bucket, and the bloom words let the name through
  pub record Indexed (i : ℕ) : Type 0 where
    pub place : ℕ
    pub index : i ≡ s.table.hdr.table_start_idx + place
    pub inside : place < word_count s.table.chains
    pub named : NamedAt place
    pub bits : HasBothBits s.table (gnu_hash_of name)
    pub run : InRun s.table place (gnu_hash_of name)

  pub indexed : SoundGnu s → ReadsBelowCount s.table.chains → (i : ℕ) → ScanGnu s name i → Indexed i
  indexed sound reads i scan =
      let place = i - s.table.hdr.table_start_idx in
      let index : i ≡ s.table.hdr.table_start_idx + place = omega (arith, scan.0.0) in
      let inside : place < word_count s.table.chains = omega (arith, scan.0.0, scan.0.1) in
      let w = word_below s.table.chains place reads inside in
      let here = some_and (symbol_and_name s.symbols s.strings (s.table.hdr.table_start_idx + place)) _ (sound.1 place w.0 (word_some s.table.chains place w.0 w.1)) in
      let P : ℕ → Type 0 = λ n. IsSomeAnd (symbol_and_name s.symbols s.strings n) (λ found. found.1 ≡ name) in
      let has : NamedAt place = subst P index scan.1 in
      let x = some_and (symbol_and_name s.symbols s.strings (s.table.hdr.table_start_idx + place)) _ has in
      let same : here.0.1 ≡ name = cc (x.1, x.2, here.1) in
      let Bits : List ℕ → Type 0 = λ n. HasBothBits s.table (gnu_hash_of n) in
      let Runs : List ℕ → Type 0 = λ n. InRun s.table place (gnu_hash_of n) in
      record { place = place; index = index; inside = inside; named = has; bits = subst Bits same here.2.1; run = subst Runs same here.2.2 }

  -- what is found, and that it is the least index of the name
  pub record Answer : Type 0 where
    pub found : Option (ℕ × Symbol)
    pub is : gnu_find s.table s.symbols s.strings name ≡ Ok found
    pub least : IsLeastNamed s name found

  pub record BucketAnswer (w : ℕ) : Type 0 where
    pub found : Option (ℕ × Symbol)
    pub is : find_in_bucket s.table s.symbols s.strings name w ≡ Ok found
    pub least : IsLeastNamed s name found

  run_least : SoundGnu s → ReadsBelowCount s.table.chains → (w : ℕ) → word s.table.buckets (gnu_hash_of name % word_count s.table.buckets) ≡ Some w → s.table.hdr.table_start_idx ≤ w → (found : Option (ℕ × Symbol)) → RunAnswer (w - s.table.hdr.table_start_idx) found → IsLeastNamed s name found
  run_least sound reads w bucket low None answer = λ i scan.
      let x = indexed sound reads i scan in
      let b = some_and (word s.table.buckets (gnu_hash_of name % word_count s.table.buckets)) _ x.run.1 in
      let same : b.0 ≡ w = cc (b.1, bucket) in
      answer.none x.place (omega (arith, b.2.1, same)) x.inside (λ j v from high e. b.2.2 j v (omega (arith, same)) high e) x.named
  run_least sound reads w bucket low (Some found) answer = (
    (omega (arith, answer.index), omega (arith, answer.index, answer.inside)),
    answer.symbol,
    λ i scan. elim (cases_lt i found.0) [
      | inl below ↦
          let x = indexed sound reads i scan in
          let b = some_and (word s.table.buckets (gnu_hash_of name % word_count s.table.buckets)) _ x.run.1 in
          let same : b.0 ≡ w = cc (b.1, bucket) in
          absurd (answer.first x.place (omega (arith, b.2.1, same)) (omega (arith, x.index, answer.index, below)) x.named)
      | inr least ↦ least
    ],
  )

  in_bucket : SoundGnu s → ReadsBelowCount s.table.chains → (w : ℕ) → word s.table.buckets (gnu_hash_of name % word_count s.table.buckets) ≡ Some w → BucketAnswer w
  in_bucket sound reads w bucket = elim (cases_lt w s.table.hdr.table_start_idx) [
    | inl before ↦ record {
      found = None;
      is = grind (arith, common_steps);
      least = λ i scan.
          let x = indexed sound reads i scan in
          let b = some_and (word s.table.buckets (gnu_hash_of name % word_count s.table.buckets)) _ x.run.1 in
          let same : b.0 ≡ w = cc (b.1, bucket) in
          absurd (omega (arith, b.2.0, same));
    }
    | inr low ↦ elim (cases_lt (word_count s.table.chains) (w - s.table.hdr.table_start_idx)) [
      | inl past ↦ record {
        found = None;
        is =
            let none : find_in_run s.table s.symbols s.strings name (word_count s.table.chains - (w - s.table.hdr.table_start_idx)) (w - s.table.hdr.table_start_idx) ≡ Ok None = run_limit s.table s.symbols s.strings name _ _ (omega arith) in
            grind (arith, common_steps);
        least = λ i scan.
            let x = indexed sound reads i scan in
            let b = some_and (word s.table.buckets (gnu_hash_of name % word_count s.table.buckets)) _ x.run.1 in
            let same : b.0 ≡ w = cc (b.1, bucket) in
            absurd (omega (arith, b.2.1, same, x.inside));
      }
      | inr inside ↦
          let run = run_from sound reads (word_count s.table.chains - (w - s.table.hdr.table_start_idx)) (w - s.table.hdr.table_start_idx) (omega arith) in
          record {
            found = run.found;
            is = let e = run.is in grind (arith, common_steps);
            least = run_least sound reads w bucket low run.found run.answer;
          }
    ]
  ]

  -- the bloom words do not let the name through, so no indexed symbol has it
  no_bits : SoundGnu s → ReadsBelowCount s.table.chains → (w : ℕ) → bloom s.table.bloom (gnu_hash_of name / address_bits s.table.bloom.class % s.table.hdr.nbloom) ≡ Some w → ((bit_at w (gnu_hash_of name % address_bits s.table.bloom.class) ≡ 0) ⊎ (bit_at w (gnu_hash_of name / 2 ^ s.table.hdr.nshift % address_bits s.table.bloom.class) ≡ 0)) → IsLeastNamed s name None
  no_bits sound reads w is clear = λ i scan.
      let x = indexed sound reads i scan in
      let b = some_and (bloom s.table.bloom (gnu_hash_of name / address_bits s.table.bloom.class % s.table.hdr.nbloom)) _ x.bits.1 in
      let same : b.0 ≡ w = cc (b.1, is) in
      elim clear [
        | inl first ↦ absurd (let set : bit_at w (gnu_hash_of name % address_bits s.table.bloom.class) ≡ 1 = ap (λ n. bit_at n (gnu_hash_of name % address_bits s.table.bloom.class)) (sym same) ∙ b.2.0 in omega (arith, set, first))
        | inr second ↦ absurd (let set : bit_at w (gnu_hash_of name / 2 ^ s.table.hdr.nshift % address_bits s.table.bloom.class) ≡ 1 = ap (λ n. bit_at n (gnu_hash_of name / 2 ^ s.table.hdr.nshift % address_bits s.table.bloom.class)) (sym same) ∙ b.2.1 in omega (arith, set, second))
      ]

  -- ---- what the look-up comes to

  found_through : 0 < word_count s.table.buckets → 0 < s.table.hdr.nbloom → (w : ℕ) → passes s.table (gnu_hash_of name) ≡ Ok true → word_at s.table.buckets (gnu_hash_of name % word_count s.table.buckets) ≡ Ok w → gnu_find s.table s.symbols s.strings name ≡ find_in_bucket s.table s.symbols s.strings name w
  unfolding gnu_find
  found_through some bloomed w passed bucket =
      let a : nat_eq (word_count s.table.buckets) 0 ≡ false = grind (arith, common_steps) in
      let b : nat_eq s.table.hdr.nbloom 0 ≡ false = grind (arith, common_steps) in
      rw (a, b, passed, bucket) refl

  found_not_through : 0 < word_count s.table.buckets → 0 < s.table.hdr.nbloom → passes s.table (gnu_hash_of name) ≡ Ok false → gnu_find s.table s.symbols s.strings name ≡ Ok None
  unfolding gnu_find
  found_not_through some bloomed passed =
      let a : nat_eq (word_count s.table.buckets) 0 ≡ false = grind (arith, common_steps) in
      let b : nat_eq s.table.hdr.nbloom 0 ≡ false = grind (arith, common_steps) in
      rw (a, b, passed) refl

  found_without_buckets : word_count s.table.buckets ≡ 0 → gnu_find s.table s.symbols s.strings name ≡ Ok None
  unfolding gnu_find
  found_without_buckets none = rw none refl

  found_without_bloom : s.table.hdr.nbloom ≡ 0 → gnu_find s.table s.symbols s.strings name ≡ Ok None
  unfolding gnu_find
  found_without_bloom none = elim (cases_Bool (nat_eq (word_count s.table.buckets) 0)) [
    | inl a ↦ rw a refl
    | inr a ↦ rw (a, none) refl
  ]

  first_clear : (w : ℕ) → bloom_of s.table (gnu_hash_of name) ≡ Ok w → bit_at w (gnu_hash_of name % address_bits s.table.bloom.class) ≡ 0 → passes s.table (gnu_hash_of name) ≡ Ok false
  unfolding passes
  first_clear w read clear = rw (read, clear) refl

  second_decides : (w : ℕ) → bloom_of s.table (gnu_hash_of name) ≡ Ok w → bit_at w (gnu_hash_of name % address_bits s.table.bloom.class) ≡ 1 → s.table.hdr.nshift < 32 → passes s.table (gnu_hash_of name) ≡ Ok (nat_eq (bit_at w (gnu_hash_of name / 2 ^ s.table.hdr.nshift % address_bits s.table.bloom.class)) 1)
  unfolding passes
  second_decides w read set small =
      let low : nat_le 32 s.table.hdr.nshift ≡ false = grind (arith, common_steps) in
      rw (read, set, low) refl

  bloom_readable : GnuReads s.table → 0 < s.table.hdr.nbloom → (w : ℕ) × (bloom_of s.table (gnu_hash_of name) ≡ Ok w)
  unfolding bloom
  bloom_readable can some =
      let at = gnu_hash_of name / address_bits s.table.bloom.class % s.table.hdr.nbloom in
      let below : at < s.table.hdr.nbloom = omega arith in
      ok_value (bloom_word s.table.bloom at) (can.2 at below)

  passed_answer : SoundGnu s → GnuReads s.table → 0 < word_count s.table.buckets → 0 < s.table.hdr.nbloom → passes s.table (gnu_hash_of name) ≡ Ok true → Answer
  passed_answer sound can some bloomed passed =
      let h = gnu_hash_of name % word_count s.table.buckets in
      let w = word_below s.table.buckets h can.0 (omega arith) in
      let b = in_bucket sound can.1 w.0 (word_some s.table.buckets h w.0 w.1) in
      record { found = b.found; is = found_through some bloomed w.0 passed w.1 ∙ b.is; least = b.least }

  with_bloom : SoundGnu s → GnuReads s.table → 0 < word_count s.table.buckets → 0 < s.table.hdr.nbloom → Answer
  with_bloom sound can some bloomed =
      let w = bloom_readable can bloomed in
      let seen = bloom_some s.table.bloom _ w.0 w.1 in
      elim (odd_or_even (w.0 / 2 ^ (gnu_hash_of name % address_bits s.table.bloom.class))) [
        | inl clear ↦ record { found = None; is = found_not_through some bloomed (first_clear w.0 w.1 clear); least = no_bits sound can.1 w.0 seen (inl clear) }
        | inr set ↦
            let second = second_decides w.0 w.1 set sound.0 in
            elim (odd_or_even (w.0 / 2 ^ (gnu_hash_of name / 2 ^ s.table.hdr.nshift % address_bits s.table.bloom.class))) [
              | inl clear ↦ record { found = None; is = found_not_through some bloomed (second ∙ ap (λ n. Ok (nat_eq n 1)) clear); least = no_bits sound can.1 w.0 seen (inr clear) }
              | inr also ↦ passed_answer sound can some bloomed (second ∙ ap (λ n. Ok (nat_eq n 1)) also)
            ]
      ]

  -- on a sound section a look-up is refused nothing, and finds the least index of the name
  pub gnu_scan : SoundGnu s → GnuReads s.table → Answer
  gnu_scan sound can = elim (cases_lt 0 (word_count s.table.buckets)) [
    | inr none ↦ record {
      found = None;
      is = found_without_buckets (omega arith);
      least = λ i scan. let x = indexed sound can.1 i scan in absurd (omega (arith, x.run.0, none));
    }
    | inl some ↦ elim (cases_lt 0 s.table.hdr.nbloom) [
      | inr none ↦ record {
        found = None;
        is = found_without_bloom (omega arith);
        least = λ i scan. let x = indexed sound can.1 i scan in absurd (omega (arith, x.bits.0, none));
      }
      | inl bloomed ↦ with_bloom sound can some bloomed
    ]
  ]
