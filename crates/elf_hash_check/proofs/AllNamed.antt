-- All symbols of a name: what the indexes from the first one on come to in a sound section.
use Rattle.std.proofs.Common.{◌≡◌, ◌≢◌, ℕ, ◌+◌, ◌-◌, ◌%◌, ◌<◌, ◌≤◌, zero, suc, false, nat_eq, List, [], ◌∷◌, Option, Some, None, refl, ap, sym, ◌∙◌, subst, inl, inr, arith}
use Rattle.std.specs.List.{Contains, filter_map}
use Rattle.std.specs.Option.{IsSomeAnd}
use Rattle.std.proofs.lemmas.Bool.{cases_lt}
use Rattle.std.proofs.lemmas.Grind.{common_steps}
use Rattle.elf_records.specs.declared.symbol.Symbol.{Symbol}
use Rattle.elf_parts.specs.Hash.{ReadsBelowCount, gnu_hash_of, sysv_hash_of, word_count}
use Rattle.elf_parts.specs.GnuFind.{GnuTable}
use Rattle.elf_parts.specs.SysvFind.{SysvTable}
use Rattle.elf_hash_check.specs.Indexed.{HasName, IsFirstNamed, IsLeastNamed, ScanGnu}
use Rattle.elf_hash_check.specs.NamedSymbols.{AreAllNamed, IsIndexedWithName, Precedes, chain_from, first_of}
use Rattle.elf_hash_check.specs.NamedSymbols.{index_behind}
use Rattle.elf_hash_check.specs.NamedSymbols.{indexes_from, symbols_with_name, run_from, symbol_named, unless_last}
use Rattle.elf_hash_check.specs.NamedSymbols.{unless_zero}
use Rattle.elf_hash_check.specs.Object.{ByGnu, BySysv, Object}
use Rattle.elf_hash_check.specs.SoundGnu.{SoundGnu}
use Rattle.elf_hash_check.specs.SoundSysv.{EndsAt, SoundSysv, Visits, chain_word, value}
use Rattle.elf_hash_check.specs.WithSymbols.{WithSymbols, symbol_and_name, word}
use Rattle.elf_hash_check.specs.declared.hashcheck.named.Following.TheVariants.{Chain, Run}
use Rattle.elf_hash_check.specs.inner.SoundProps.{GnuReads}
use Rattle.elf_hash_check.proofs.GnuScan.{NoEnd, indexed, odd_or_even}
use Rattle.elf_hash_check.proofs.NamedLists.{In, Pairs, contains_from_in, has_name, in_from_contains, in_kept, is_named}
use Rattle.elf_hash_check.proofs.NamedLists.{keeps, kept_in, pairs_all, pairs_kept, walk_none, walk_step}
use Rattle.elf_hash_check.proofs.Reading.{some_and, word_below, word_some}
use Rattle.elf_hash_check.proofs.SysvCount.{apart_in_chain}
use Rattle.elf_hash_check.proofs.SysvScan.{before_end, value_before, visits_before}

-- the symbol of an index has the name
has : (o : Option (Symbol × List ℕ)) (symbol : Symbol) (name : List ℕ) → o ≡ Some (symbol, name) → IsSomeAnd o (λ found. found.1 ≡ name)
has o symbol name e =
    let P : Option (Symbol × List ℕ) → Type 0 = λ x. IsSomeAnd x (λ found. found.1 ≡ name) in
    subst P (sym e) refl

-- the first of what is left, where the first index has the name
first_kept : (s_symbols : List ℕ → ℕ → Option (ℕ × Symbol)) (name is rest : List ℕ) (found : ℕ × Symbol) → is ≡ found.0 ∷ rest → s_symbols name found.0 ≡ Some found →
    first_of (filter_map (s_symbols name) is) ≡ Some found
first_kept f name is rest found e is_one = rw (e, is_one) refl

-- two symbols, by their indexes
abbrev Apart : ℕ × Symbol → ℕ × Symbol → Type 0
Apart one other = one.0 ≢ other.0

abbrev Before : Object → ℕ × Symbol → ℕ × Symbol → Type 0
Before object one other = Precedes object one.0 other.0

module _ (object : Object) (name : List ℕ) (nothing : (one : ℕ × Symbol) → IsIndexedWithName object name one → ⊥) where
  -- nothing has the name
  none_all : (one : ℕ × Symbol) → (Contains [] one → IsIndexedWithName object name one) × (IsIndexedWithName object name one → Contains [] one)
  none_all one = (λ c. absurd (in_from_contains [] one c), λ h. absurd (nothing one h))

-- ---- GNU

module _ (s : WithSymbols GnuTable) (name : List ℕ) where
  -- the indexes of a run from place k on
  record Ran (k : ℕ) (is : List ℕ) : Type 0 where
    inside : (i : ℕ) → In i is → (j : ℕ) × (k ≤ j) × (j < word_count s.table.chains) × (i ≡ s.table.hdr.table_start_idx + j)
    back : (j : ℕ) → k ≤ j → j < word_count s.table.chains → NoEnd s name k j → In (s.table.hdr.table_start_idx + j) is
    order : Pairs (λ i j. i < j) is
    once : Pairs (λ i j. i ≢ j) is

  no_place : (k : ℕ) → k ≡ word_count s.table.chains → Ran k []
  no_place k all = record {
    inside = λ i h. absurd h;
    back = λ j from below no_end. absurd (omega (arith, all, from, below));
    order = tt;
    once = tt;
  }

  last_place : (k w : ℕ) → k < word_count s.table.chains → word s.table.chains k ≡ Some w → w % 2 ≡ 1 → Ran k ((s.table.hdr.table_start_idx + k) ∷ [])
  last_place k w below chain odd = record {
    inside = λ i h. elim h [ inl e ↦ (k, omega arith, below, sym e) | inr other ↦ absurd other ];
    back = λ j from under no_end. elim (cases_lt k j) [
      | inl more ↦ absurd (let even : w % 2 ≡ 0 = no_end k w (omega arith) more chain in omega (arith, even, odd))
      | inr less ↦ inl (omega (arith, from, less))
    ];
    order = (λ i h. absurd h, tt);
    once = (λ i h. absurd h, tt);
  }

  one_more_place : (k : ℕ) (is : List ℕ) → k < word_count s.table.chains → Ran (k + 1) is → Ran k ((s.table.hdr.table_start_idx + k) ∷ is)
  one_more_place k is below rest = record {
    inside = λ i h. elim h [
      | inl e ↦ (k, omega arith, below, sym e)
      | inr other ↦ let r = rest.inside i other in (r.0, omega (arith, r.1), r.2, r.3)
    ];
    back = λ j from under no_end. elim (cases_lt k j) [
      | inl more ↦ inr (rest.back j (omega (arith, more)) under (λ i v low high e. no_end i v (omega (arith, low)) high e))
      | inr less ↦ inl (omega (arith, from, less))
    ];
    order = (λ i h. let r = rest.inside i h in omega (arith, r.1, r.3), rest.order);
    once = (λ i h. let r = rest.inside i h in λ same. absurd (omega (arith, r.1, r.3, same)), rest.once);
  }

  abbrev behind_run : ℕ → Option ℕ
  behind_run = index_behind s.table.chains (Run s.table.hdr.table_start_idx)

  behind_place : (k w : ℕ) → word s.table.chains k ≡ Some w → behind_run (s.table.hdr.table_start_idx + k) ≡ unless_last (s.table.hdr.table_start_idx + k) (Some w)
  behind_place k w chain =
      let at : s.table.hdr.table_start_idx + k - s.table.hdr.table_start_idx ≡ k = omega arith in
      ap (λ n. unless_last (s.table.hdr.table_start_idx + k) (word s.table.chains n)) at ∙ ap (unless_last (s.table.hdr.table_start_idx + k)) chain

  at_an_end : (index w : ℕ) → w % 2 ≡ 1 → unless_last index (Some w) ≡ None
  at_an_end index w odd = rw odd refl

  at_no_end : (index w : ℕ) → w % 2 ≡ 0 → unless_last index (Some w) ≡ Some (index + 1)
  at_no_end index w even = rw even refl

  places : ReadsBelowCount s.table.chains → (limit k : ℕ) → k + limit ≡ word_count s.table.chains → Ran k (indexes_from behind_run limit (Some (s.table.hdr.table_start_idx + k)))
  places reads zero k all = no_place k (omega (arith, all))
  places reads (suc limit) k all =
      let w = word_below s.table.chains k reads (omega (arith, all)) in
      let chain = word_some s.table.chains k w.0 w.1 in
      let next = behind_place k w.0 chain in
      let P : Option ℕ → Type 0 = λ o. Ran k ((s.table.hdr.table_start_idx + k) ∷ indexes_from behind_run limit o) in
      elim (odd_or_even s name w.0) [
        | inl even ↦
            let at : s.table.hdr.table_start_idx + k + 1 ≡ s.table.hdr.table_start_idx + (k + 1) = omega arith in
            let behind = next ∙ at_no_end (s.table.hdr.table_start_idx + k) w.0 even ∙ ap Some at in
            subst P (sym behind) (one_more_place k _ (omega (arith, all)) (places reads limit (k + 1) (omega (arith, all))))
        | inr odd ↦
            let behind = next ∙ at_an_end (s.table.hdr.table_start_idx + k) w.0 odd in
            let Q : List ℕ → Type 0 = λ is. Ran k ((s.table.hdr.table_start_idx + k) ∷ is) in
            subst P (sym behind) (subst Q (sym (walk_none behind_run limit)) (last_place k w.0 (omega (arith, all)) chain odd))
      ]

  pub gnu_all : SoundGnu s → GnuReads s.table → (found : Option (ℕ × Symbol)) → IsLeastNamed s name found →
      AreAllNamed (ByGnu s) name (symbols_with_name s.symbols s.strings name (run_from s.table found))
  gnu_all sound can None least = record {
    all = none_all (ByGnu s) name (λ one h. least one.0 (h.0, has (symbol_and_name s.symbols s.strings one.0) one.1 name h.1));
    once = pairs_all Apart [] tt;
    order = pairs_all (Before (ByGnu s)) [] tt;
    first = least;
  }
  gnu_all sound can (Some found) least =
      let first = s.table.hdr.table_start_idx in
      let f = symbol_named s.symbols s.strings name in
      let kept = keeps s.symbols s.strings name in
      let here = indexed s name sound can.1 found.0 (least.0, has (symbol_and_name s.symbols s.strings found.0) found.1 name least.1) in
      let here_bucket = some_and (word s.table.buckets (gnu_hash_of name % word_count s.table.buckets)) _ here.run.1 in
      let is = run_from s.table (Some found) in
      let place : found.0 - first ≡ here.place = omega (arith, here.index) in
      let P : ℕ → ℕ → Type 0 = λ n i. Ran here.place (indexes_from behind_run (word_count s.table.chains - n) (Some i)) in
      let places_there = places can.1 (word_count s.table.chains - here.place) here.place (omega (arith, here.inside)) in
      let ran : Ran here.place is = subst (λ (n : ℕ). P n found.0) (sym place) (subst (λ (i : ℕ). P here.place i) (sym here.index) places_there) in
      record {
        all = λ one. (
          λ c.
              let k = in_kept f kept is one (in_from_contains (symbols_with_name s.symbols s.strings name is) one c) in
              let r = ran.inside one.0 k.0 in
              ((omega (arith, r.3), omega (arith, r.2, r.3)), has_name s.symbols s.strings name one.0 one k.1),
          λ h.
              let scan : ScanGnu s name one.0 = (h.0, has (symbol_and_name s.symbols s.strings one.0) one.1 name h.1) in
              let there = indexed s name sound can.1 one.0 scan in
              let there_bucket = some_and (word s.table.buckets (gnu_hash_of name % word_count s.table.buckets)) _ there.run.1 in
              let same : here_bucket.0 ≡ there_bucket.0 = cc (here_bucket.1, there_bucket.1) in
              let from : here.place ≤ there.place = omega (arith, least.2 one.0 scan, here.index, there.index) in
              let no_end : NoEnd s name here.place there.place = λ i v low high e. there_bucket.2.2 i v (omega (arith, same, here_bucket.2.1, low)) high e in
              let In_here : ℕ → Type 0 = λ i. In i is in
              let there_in = subst In_here (sym there.index) (ran.back there.place from there.inside no_end) in
              contains_from_in (symbols_with_name s.symbols s.strings name is) one (kept_in f kept is one (is_named s.symbols s.strings name one h.1) there_in),
        );
        once = pairs_all Apart (symbols_with_name s.symbols s.strings name is) (pairs_kept f kept (λ i j. i ≢ j) is ran.once);
        order = pairs_all (Before (ByGnu s)) (symbols_with_name s.symbols s.strings name is) (pairs_kept f kept (λ i j. i < j) is ran.order);
        first =
            let step = walk_step behind_run (word_count s.table.chains - (found.0 - first)) found.0 (omega (arith, place, here.inside)) in
            let head = first_kept (symbol_named s.symbols s.strings) name is _ found step (is_named s.symbols s.strings name found least.1) in
            let Q : Option (ℕ × Symbol) → Type 0 = λ o. IsLeastNamed s name o in
            subst Q (sym head) least;
      }

-- ---- SysV

module _ (s : WithSymbols SysvTable) (bucket last : ℕ) (ends : EndsAt s bucket last) where
  -- the indexes of a chain from value i on
  record Walked (i : ℕ) (is : List ℕ) : Type 0 where
    inside : (x : ℕ) → In x is → (m : ℕ) × (i ≤ m) × (m < last) × (value s.table bucket m ≡ Some x)
    back : (m x : ℕ) → i ≤ m → m < last → value s.table bucket m ≡ Some x → In x is
    order : Pairs (Precedes (BySysv s)) is
    once : Pairs (λ x y. x ≢ y) is

  no_value : (i : ℕ) → i ≡ last → Walked i []
  no_value i all = record {
    inside = λ x h. absurd h;
    back = λ m x from below e. absurd (omega (arith, all, from, below));
    order = tt;
    once = tt;
  }

  one_more_value : (i index : ℕ) (is : List ℕ) → i < last → value s.table bucket i ≡ Some index → Walked (suc i) is → Walked i (index ∷ is)
  one_more_value i index is below here rest = record {
    inside = λ x h. elim h [
      | inl e ↦ (i, omega arith, below, here ∙ ap Some e)
      | inr other ↦ let r = rest.inside x other in (r.0, omega (arith, r.1), r.2, r.3)
    ];
    back = λ m x from under e. elim (cases_lt i m) [
      | inl more ↦ inr (rest.back m x (omega (arith, more)) under e)
      | inr less ↦ let at : i ≡ m = omega (arith, from, less) in let same : Some index ≡ Some x = sym here ∙ ap (value s.table bucket) at ∙ e in inl (cc)
    ];
    order = (
      λ x h. let r = rest.inside x h in (bucket, i, r.0, omega (arith, r.1), visits_before s bucket last ends i below index here, visits_before s bucket last ends r.0 r.2 x r.3),
      rest.order,
    );
    once = (
      λ x h. let r = rest.inside x h in λ same. apart_in_chain s bucket last ends i r.0 (omega (arith, r.1)) r.2 (here ∙ ap Some same ∙ sym r.3),
      rest.once,
    );
  }

  abbrev behind_chain : ℕ → Option ℕ
  behind_chain = index_behind s.table.chains Chain

  pub not_zero : (v : Option ℕ) (index : ℕ) → v ≡ Some index → 0 < index → unless_zero v ≡ Some index
  not_zero v index e some =
      let far : nat_eq index 0 ≡ false = grind (arith, common_steps) in
      ap unless_zero e ∙ rw far refl

  values : (left limit i : ℕ) → i + left ≡ last → left ≤ limit → Walked i (indexes_from behind_chain limit (unless_zero (value s.table bucket i)))
  values zero limit i all enough =
      let at : i ≡ last = omega (arith, all) in
      let at_end : unless_zero (value s.table bucket i) ≡ None = ap (λ n. unless_zero (value s.table bucket n)) at ∙ ap unless_zero ends.1 in
      let none = ap (indexes_from behind_chain limit) at_end ∙ walk_none behind_chain limit in
      let P : List ℕ → Type 0 = λ is. Walked i is in
      subst P (sym none) (no_value i at)
  values (suc left) zero i all enough = absurd (omega (arith, enough))
  values (suc left) (suc limit) i all enough =
      let x = value_before s bucket last ends i (omega (arith, all)) in
      let here = not_zero (value s.table bucket i) x.index x.is x.positive in
      let next : behind_chain x.index ≡ unless_zero (value s.table bucket (suc i)) = ap (λ (v : Option ℕ). unless_zero (chain_word s.table.chains v)) (sym x.is) in
      let P : Option ℕ → Type 0 = λ o. Walked i (indexes_from behind_chain (suc limit) o) in
      let Q : Option ℕ → Type 0 = λ o. Walked i (x.index ∷ indexes_from behind_chain limit o) in
      let rest = values left limit (suc i) (omega (arith, all)) (omega (arith, enough)) in
      subst P (sym here) (subst Q (sym next) (one_more_value i x.index _ (omega (arith, all)) x.is rest))

module _ (s : WithSymbols SysvTable) (name : List ℕ) where
  -- a symbol of the name lies in the chain of the name's bucket
  own_bucket : SoundSysv s → (bucket j index : ℕ) (symbol : Symbol) → bucket < word_count s.table.buckets → Visits s.table bucket j index →
      symbol_and_name s.symbols s.strings index ≡ Some (symbol, name) → bucket ≡ sysv_hash_of name % word_count s.table.buckets
  own_bucket sound bucket j index symbol below visits e =
      let ends = sound bucket below in
      let v = value_before s bucket ends.0 ends.1 j (before_end s bucket ends.0 ends.1 j visits.2) in
      let same : v.index ≡ index = cc (v.is, visits.1) in
      let found : Some v.found ≡ Some (symbol, name) = sym v.named ∙ ap (symbol_and_name s.symbols s.strings) same ∙ e in
      let pair : v.found ≡ (symbol, name) = cc in
      sym v.hash ∙ ap (λ (p : Symbol × List ℕ). sysv_hash_of p.1 % word_count s.table.buckets) pair

  pub sysv_all : SoundSysv s → (found : Option (ℕ × Symbol)) → IsFirstNamed s name found →
      AreAllNamed (BySysv s) name (symbols_with_name s.symbols s.strings name (chain_from s.table found))
  sysv_all sound None first = record {
    all = none_all (BySysv s) name (λ one h. first one.0 (h.0, has (symbol_and_name s.symbols s.strings one.0) one.1 name h.1));
    once = pairs_all Apart [] tt;
    order = pairs_all (Before (BySysv s)) [] tt;
    first = first;
  }
  sysv_all sound (Some found) first =
      let bucket = first.1.0 in
      let j = first.1.1 in
      let is_first = first.1.2 in
      let f = symbol_named s.symbols s.strings name in
      let kept = keeps s.symbols s.strings name in
      let ends = sound bucket is_first.0 in
      let inside = before_end s bucket ends.0 ends.1 j is_first.1.2 in
      let v = value_before s bucket ends.0 ends.1 j inside in
      let same_index : v.index ≡ found.0 = cc (v.is, is_first.1.1) in
      let start = not_zero s bucket ends.0 ends.1 (value s.table bucket j) found.0 is_first.1.1 (omega (arith, v.positive, same_index)) in
      let is = chain_from s.table (Some found) in
      let P : Option ℕ → Type 0 = λ o. Walked s bucket ends.0 ends.1 j (indexes_from (behind_chain s bucket ends.0 ends.1) (word_count s.table.chains) o) in
      let walked : Walked s bucket ends.0 ends.1 j is = subst P start (values s bucket ends.0 ends.1 (ends.0 - j) (word_count s.table.chains) j (omega (arith, inside)) (omega (arith, ends.1.0))) in
      record {
        all = λ one. (
          λ c.
              let k = in_kept f kept is one (in_from_contains (symbols_with_name s.symbols s.strings name is) one c) in
              let r = walked.inside one.0 k.0 in
              ((bucket, r.0, is_first.0, visits_before s bucket ends.0 ends.1 r.0 r.2 one.0 r.3), has_name s.symbols s.strings name one.0 one k.1),
          λ h.
              let at = h.0 in
              let here = own_bucket sound bucket j found.0 found.1 is_first.0 is_first.1 first.0 in
              let there = own_bucket sound at.0 at.1 one.0 one.1 at.2 at.3 h.1 in
              let same : at.0 ≡ bucket = there ∙ sym here in
              let V : ℕ → Type 0 = λ b. Visits s.table b at.1 one.0 in
              let visits = subst V same at.3 in
              let under = before_end s bucket ends.0 ends.1 at.1 visits.2 in
              let H : Option ℕ → Type 0 = λ o. IsSomeAnd o (HasName s name) in
              let from : j ≤ at.1 = elim (cases_lt at.1 j) [
                | inl early ↦ absurd (is_first.2 at.1 early (subst H (sym visits.1) (has (symbol_and_name s.symbols s.strings one.0) one.1 name h.1)))
                | inr late ↦ late
              ] in
              contains_from_in (symbols_with_name s.symbols s.strings name is) one
              (kept_in f kept is one (is_named s.symbols s.strings name one h.1) (walked.back at.1 one.0 from under visits.1)),
        );
        once = pairs_all Apart (symbols_with_name s.symbols s.strings name is) (pairs_kept f kept (λ i k. i ≢ k) is walked.once);
        order = pairs_all (Before (BySysv s)) (symbols_with_name s.symbols s.strings name is) (pairs_kept f kept (Precedes (BySysv s)) is walked.order);
        first =
            let step = walk_step (behind_chain s bucket ends.0 ends.1) (word_count s.table.chains) found.0 (omega (arith, inside, ends.1.0)) in
            let head = first_kept (symbol_named s.symbols s.strings) name is _ found step (is_named s.symbols s.strings name found first.0) in
            let Q : Option (ℕ × Symbol) → Type 0 = λ o. IsFirstNamed s name o in
            subst Q (sym head) first;
      }
