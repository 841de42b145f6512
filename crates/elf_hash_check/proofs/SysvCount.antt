-- How many symbols the chains of a sound SysV section index.
use Rattle.std.proofs.Common.{◌≡◌, ◌≢◌, ℕ, ◌+◌, ◌-◌, ◌%◌, ◌<◌, ◌≤◌, zero, suc, true, Option, None, eqb, false, List, [], ◌++◌, length, get_or, Some, refl, ap, sym, ◌∙◌, subst, inl, inr, arith, length-append}
use Rattle.std.specs.List.{Contains, IsDistinct}
use Rattle.std.specs.Option.{IsSomeAnd, unwrap_or}
use Rattle.std.proofs.lemmas.Bool.{cases_Bool, cases_lt}
use Rattle.std.proofs.lemmas.Grind.{common_steps}
use Rattle.std.proofs.lemmas.List.{get_or_append_left, get_or-append_right}
use Rattle.std.proofs.lemmas.Bool.Decides.{Decides-eqb}
use Rattle.std.proofs.lemmas.List.Elements.{Contains-append_left, Contains-append_right, Contains-append_cases, Contains-get_or}
use Rattle.std.proofs.lemmas.Map.Keys.{IsDistinct-from_apart}
use Rattle.std.proofs.lemmas.Map.Made.{is_member-Decides}
use Rattle.std.proofs.lemmas.Map.Steps.{length-le_from_distinct_below}
use Rattle.elf_records.specs.declared.symbol.Symbol.{Symbol}
use Rattle.elf_parts.specs.Hash.{sysv_hash_of, word_count}
use Rattle.elf_parts.specs.SysvFind.{SysvTable}
use Rattle.elf_hash_check.specs.Indexed.{IndexedBelow, IsNumberOf, chain_lengths, first_zero, is_zero}
use Rattle.elf_hash_check.specs.SoundSysv.{EndsAt, Visits, chain_word, value}
use Rattle.elf_hash_check.specs.WithSymbols.{WithSymbols, symbol_and_name}
use Rattle.elf_hash_check.proofs.Intervals.{listing, length-listing, get_or-listing}
use Rattle.elf_hash_check.proofs.SysvScan.{before_end, value_before, visits_before}

-- ---- the length of a chain

positive_is_not_zero : (v : Option ℕ) (P : ℕ → Type 0) → IsSomeAnd v (λ index. (0 < index) × P index) → is_zero v ≡ false
positive_is_not_zero None P h = absurd h
positive_is_not_zero (Some v) P h = grind (arith, common_steps, h.0)

first_zero-at : (values : ℕ → Option ℕ) (left limit i : ℕ) → left ≤ limit → ((k : ℕ) → i ≤ k → k < i + left → is_zero (values k) ≡ false) → values (i + left) ≡ Some 0 → first_zero values limit i ≡ i + left
first_zero-at values zero zero i enough before e = omega arith
first_zero-at values zero (suc limit) i enough before e =
    let at : i + 0 ≡ i = omega arith in
    let here : is_zero (values i) ≡ true = ap (λ n. is_zero (values n)) (sym at) ∙ ap is_zero e in
    rw here (sym at)
first_zero-at values (suc left) zero i enough before e = absurd (omega arith)
first_zero-at values (suc left) (suc limit) i enough before e =
    let here = before i (omega arith) (omega arith) in
    let at : i + suc left ≡ suc i + left = omega arith in
    rw here (first_zero-at values left limit (suc i) (omega arith) (λ k low high. before k (omega arith) (omega arith)) (ap values (sym at) ∙ e) ∙ sym at)

-- the length of a chain is the place of its first 0
length_of_chain : (s : WithSymbols SysvTable) (bucket j : ℕ) → EndsAt s bucket j → first_zero (value s.table bucket) (word_count s.table.chains) 0 ≡ j
length_of_chain s bucket j a =
    let at : 0 + j ≡ j = omega arith in
    let P : Option ℕ → Type 0 = λ v. is_zero v ≡ false in
    first_zero-at (value s.table bucket) j (word_count s.table.chains) 0 a.0 (λ k low high. positive_is_not_zero (value s.table bucket k) _ (a.2 k (omega arith))) (ap (value s.table bucket) at ∙ a.1) ∙ at

-- ---- lists

-- two numbers that are not the same, by test
apart_by_test : (a b : ℕ) → a ≢ b → eqb a b ≡ false
apart_by_test a b apart = elim (cases_Bool (eqb a b)) [ inl e ↦ absurd (apart ((Decides-eqb a b).0 e)) | inr e ↦ e ]

-- the default does not matter inside a list
get_or_in : (xs : List ℕ) (i c d : ℕ) → i < length xs → get_or xs i c ≡ get_or xs i d
get_or_in xs i c d below = grind (arith, common_steps)

-- ---- a number of members that all lie below a bound is at most the bound

pub number_within : (n m : ℕ) (P : ℕ → Type 0) → IsNumberOf n P → ((i : ℕ) → P i → i < m) → n ≤ m
number_within n m P number below =
    let xs = number.members in
    let distinct : IsDistinct eqb xs = IsDistinct-from_apart eqb xs (λ i j d less within.
    apart_by_test (get_or xs i d) (get_or xs j d) (λ same.
    number.apart i j less within (get_or_in xs i 0 d (omega arith) ∙ same ∙ sym (get_or_in xs j 0 d within)))) in
    let inside = length-le_from_distinct_below xs m distinct (λ q e. below q ((number.all q).0 ((is_member-Decides Decides-eqb xs q).0 e))) in
    omega (arith, inside, number.count)

-- ---- two lists without repetition that share nothing

abbrev Apart : List ℕ → Type 0
Apart xs = (j k : ℕ) → j < k → k < length xs → get_or xs j 0 ≢ get_or xs k 0

joined_apart : (xs ys : List ℕ) → Apart xs → Apart ys → ((i : ℕ) → Contains xs i → Contains ys i → ⊥) → Apart (xs ++ ys)
joined_apart xs ys left right shared j k less below same =
    let size = length-append xs ys in
    elim (cases_lt k (length xs)) [
      | inl low ↦
          let a = get_or_append_left xs ys 0 j (omega arith) in
          let b = get_or_append_left xs ys 0 k low in
          left j k less low (sym a ∙ same ∙ b)
      | inr high ↦
          let b = get_or-append_right xs ys (length xs) k 0 refl high in
          elim (cases_lt j (length xs)) [
            | inl low ↦
                let a = get_or_append_left xs ys 0 j low in
                let P : ℕ → Type 0 = λ i. Contains xs i in
                shared (get_or ys (k - length xs) 0) (subst P (sym a ∙ same ∙ b) (Contains-get_or xs j 0 low)) (Contains-get_or ys (k - length xs) 0 (omega (arith, size)))
            | inr also ↦
                let a = get_or-append_right xs ys (length xs) j 0 refl also in
                right (j - length xs) (k - length xs) (omega arith) (omega (arith, size)) (sym a ∙ same ∙ b)
          ]
    ]

-- ---- the values of one chain

module _ (s : WithSymbols SysvTable) (bucket last : ℕ) (ends : EndsAt s bucket last) where
  chain : List ℕ
  chain = listing (λ i. unwrap_or (value s.table bucket i) 0) 0 last

  length-chain : length chain ≡ last
  unfolding chain
  length-chain = length-listing (λ i. unwrap_or (value s.table bucket i) 0) 0 last

  -- member k of the chain is value k
  member : (k d : ℕ) → k < last → value s.table bucket k ≡ Some (get_or chain k d)
  unfolding chain
  member k d below =
      let v = value_before s bucket last ends k below in
      let at : 0 + k ≡ k = omega arith in
      let e : get_or (listing (λ i. unwrap_or (value s.table bucket i) 0) 0 last) k d ≡ v.index =
      get_or-listing (λ i. unwrap_or (value s.table bucket i) 0) 0 last k d below ∙ ap (λ i. unwrap_or (value s.table bucket i) 0) at ∙ ap (λ o. unwrap_or o 0) v.is in
      v.is ∙ ap Some (sym e)

  -- from two equal values on the chain goes the same way
  same_way : (i k d : ℕ) → value s.table bucket i ≡ value s.table bucket k → value s.table bucket (i + d) ≡ value s.table bucket (k + d)
  same_way i k zero e =
      let a : i + 0 ≡ i = omega arith in
      let b : k + 0 ≡ k = omega arith in
      ap (value s.table bucket) a ∙ e ∙ ap (value s.table bucket) (sym b)
  same_way i k (suc d) e =
      let a : i + suc d ≡ suc (i + d) = omega arith in
      let b : k + suc d ≡ suc (k + d) = omega arith in
      ap (value s.table bucket) a ∙ ap (chain_word s.table.chains) (same_way i k d e) ∙ ap (value s.table bucket) (sym b)

  -- no index comes twice, since the chain would not end
  pub apart_in_chain : (i k : ℕ) → i < k → k < last → value s.table bucket i ≢ value s.table bucket k
  apart_in_chain i k less below same =
      let end_at : k + (last - k) ≡ last = omega arith in
      let early = value_before s bucket last ends (i + (last - k)) (omega arith) in
      let zero_there : value s.table bucket (i + (last - k)) ≡ Some 0 = same_way i k (last - k) same ∙ ap (value s.table bucket) end_at ∙ ends.1 in
      let none : early.index ≡ 0 = cc (early.is, zero_there) in
      omega (arith, early.positive, none)

module _ (s : WithSymbols SysvTable) where
  -- the chains of two buckets share no index
  apart_from_earlier : (bucket last : ℕ) → EndsAt s bucket last → ((b : ℕ) → b < bucket → (j : ℕ) × EndsAt s b j) → (k i : ℕ) → k < last → value s.table bucket k ≡ Some i → IndexedBelow s.table bucket i → ⊥
  apart_from_earlier bucket last ends sound k i below e (b, j, less, visits) =
      let other = sound b less in
      let inside = before_end s b other.0 other.1 j visits.2 in
      let x = value_before s b other.0 other.1 j inside in
      let y = value_before s bucket last ends k below in
      let same : x.index ≡ y.index = cc (x.is, visits.1, y.is, e) in
      let there : symbol_and_name s.symbols s.strings y.index ≡ Some x.found = ap (symbol_and_name s.symbols s.strings) (sym same) ∙ x.named in
      let found_same : x.found ≡ y.found = cc (there, y.named) in
      let bucket_same : b ≡ bucket = sym x.hash ∙ ap (λ (f : Symbol × List ℕ). sysv_hash_of f.1 % word_count s.table.buckets) found_same ∙ y.hash in
      omega (arith, less, bucket_same)

  pub number_more : (bucket last n : ℕ) → EndsAt s bucket last → ((b : ℕ) → b < bucket → (j : ℕ) × EndsAt s b j) → IsNumberOf n (IndexedBelow s.table bucket) → IsNumberOf (n + last) (IndexedBelow s.table (suc bucket))
  number_more bucket last n ends sound number =
      let xs = number.members in
      let ys = chain s bucket last ends in
      let size = length-chain s bucket last ends in
      record {
        members = xs ++ ys;
        all = λ i.
            let forth : Contains (xs ++ ys) i → IndexedBelow s.table (suc bucket) i =
            λ h. elim (Contains-append_cases xs ys i h) [
              | inl old ↦ let x = (number.all i).0 old in (x.0, x.1, omega (arith, x.2), x.3)
              | inr new ↦
                  let below : new.0 < last = omega (arith, new.1, size) in
                  (bucket, new.0, omega arith, visits_before s bucket last ends new.0 below i (member s bucket last ends new.0 i below ∙ ap Some new.2))
            ] in
            let back : IndexedBelow s.table (suc bucket) i → Contains (xs ++ ys) i =
            λ h. elim (cases_lt h.0 bucket) [
              | inl old ↦ Contains-append_left xs ys i ((number.all i).1 (h.0, h.1, old, h.3))
              | inr new ↦
                  let same : h.0 ≡ bucket = omega (arith, h.2, new) in
                  let P : ℕ → Type 0 = λ b. Visits s.table b h.1 i in
                  let visits = subst P same h.3 in
                  let below = before_end s bucket last ends h.1 visits.2 in
                  let e : get_or ys h.1 i ≡ i = cc (member s bucket last ends h.1 i below, visits.1) in
                  Contains-append_right xs ys i (h.1, omega (arith, below, size), e)
            ] in
            (forth, back);
        apart = joined_apart xs ys number.apart
            (λ j k less below same. apart_in_chain s bucket last ends j k less (omega (arith, below, size)) (member s bucket last ends j 0 (omega (arith, below, size, less)) ∙ ap Some same ∙ sym (member s bucket last ends k 0 (omega (arith, below, size)))))
            (λ i old new. let below : new.0 < last = omega (arith, new.1, size) in apart_from_earlier bucket last ends sound new.0 i below (member s bucket last ends new.0 i below ∙ ap Some new.2) ((number.all i).0 old));
        count = ap (λ m. m + last) number.count ∙ omega (arith, length-append xs ys, size);
      }

  -- the members of the chains of the buckets below this one, which are sound
  pub number_of_chains : (limit : ℕ) → ((b : ℕ) → b < limit → (j : ℕ) × EndsAt s b j) → IsNumberOf (chain_lengths s.table limit) (IndexedBelow s.table limit)
  unfolding chain_lengths
  number_of_chains zero sound = record {
    members = [];
    all = λ i.
        let forth : Contains [] i → IndexedBelow s.table 0 i = λ h. absurd (omega (arith, h.1)) in
        let back : IndexedBelow s.table 0 i → Contains [] i = λ h. absurd (omega (arith, h.2)) in
        (forth, back);
    apart = λ j k less below same. omega (arith, below);
    count = refl;
  }
  number_of_chains (suc limit) sound =
      let ends = sound limit (omega arith) in
      let P : ℕ → Type 0 = λ n. IsNumberOf (chain_lengths s.table limit + n) (IndexedBelow s.table (suc limit)) in
      let earlier = λ (b : ℕ) (less : b < limit). sound b (omega arith) in
      subst P (sym (length_of_chain s limit ends.0 ends.1)) (number_more limit ends.0 _ ends.1 earlier (number_of_chains limit earlier))

  -- no more members than chain words
  pub lengths_within : (limit : ℕ) → ((b : ℕ) → b < limit → (j : ℕ) × EndsAt s b j) → chain_lengths s.table limit ≤ word_count s.table.chains
  lengths_within limit sound =
      number_within (chain_lengths s.table limit) (word_count s.table.chains) (IndexedBelow s.table limit) (number_of_chains limit sound) (λ i h.
      let ends = sound h.0 h.2 in
      let inside = before_end s h.0 ends.0 ends.1 h.1 h.3.2 in
      let v = value_before s h.0 ends.0 ends.1 h.1 inside in
      let same : v.index ≡ i = cc (v.is, h.3.1) in
      omega (arith, v.inside, same))

  -- one chain more
  pub lengths_more : (bucket last : ℕ) → EndsAt s bucket last → chain_lengths s.table (bucket + 1) ≡ chain_lengths s.table bucket + last
  unfolding chain_lengths
  lengths_more bucket last ends =
      let at : bucket + 1 ≡ suc bucket = omega arith in
      ap (chain_lengths s.table) at ∙ ap (λ n. chain_lengths s.table bucket + n) (length_of_chain s bucket last ends)

  pub lengths_none : chain_lengths s.table 0 ≡ 0
  unfolding chain_lengths
  lengths_none = refl
