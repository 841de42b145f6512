-- What a sound SysV section finds.
use Rattle.std.proofs.Common.{◌≡◌, ◌≢◌, ℕ, ◌+◌, ◌-◌, ◌%◌, ◌<◌, ◌≤◌, zero, suc, false, nat_eq, List, Option, Some, None, Ok, refl, ap, sym, ◌∙◌, subst, inl, inr, arith}
use Rattle.std.specs.Option.{IsSomeAnd}
use Rattle.std.specs.Str.{bytes_eq}
use Rattle.std.proofs.lemmas.Bool.{cases_Bool, cases_lt, false≢true}
use Rattle.std.proofs.lemmas.Grind.{common_steps}
use Rattle.std.proofs.lemmas.Slice.Eq.{bytes_eq-Decides}
use Rattle.elf_records.specs.declared.symbol.Symbol.{Symbol}
use Rattle.elf_parts.specs.Hash.{ReadsBelowCount, sysv_hash_of, word_at, word_count}
use Rattle.elf_parts.specs.SysvFind.{SysvTable, find_along, sysv_find}
use Rattle.elf_parts.proofs.Walks.{along_found, along_next, along_ended, with_another, with_name}
use Rattle.elf_hash_check.specs.Indexed.{HasName, IsFirstNamed, ScanSysv}
use Rattle.elf_hash_check.specs.SoundSysv.{Belongs, EndsAt, SoundSysv, Visits, chain_word, value}
use Rattle.elf_hash_check.specs.WithSymbols.{WithSymbols, symbol_and_name}
use Rattle.elf_hash_check.specs.inner.SoundProps.{SysvReads}
use Rattle.elf_hash_check.proofs.Reading.{word_some, named_ok, some_and, word_below}

module _ (s : WithSymbols SysvTable) (bucket last : ℕ) (ends : EndsAt s bucket last) where
  -- a value before the end
  pub record Value (i : ℕ) : Type 0 where
    pub index : ℕ
    pub is : value s.table bucket i ≡ Some index
    pub positive : 0 < index
    pub inside : index < word_count s.table.chains
    pub found : Symbol × List ℕ
    pub named : symbol_and_name s.symbols s.strings index ≡ Some found
    pub hash : sysv_hash_of found.1 % word_count s.table.buckets ≡ bucket

  pub value_before : (i : ℕ) → i < last → Value i
  value_before i below =
      let x = some_and (value s.table bucket i) _ (ends.2 i below) in
      let n = some_and (symbol_and_name s.symbols s.strings x.0) _ x.2.1.1 in
      record { index = x.0; is = x.1; positive = x.2.0; inside = x.2.1.0; found = n.0; named = n.1; hash = n.2 }

  -- a value up to which there is no 0 comes before the end
  pub before_end : (j : ℕ) → ((i : ℕ) → i ≤ j → value s.table bucket i ≢ Some 0) → j < last
  before_end j far = elim (cases_lt j last) [ inl h ↦ h | inr h ↦ absurd (far last h ends.1) ]

  pub visits_before : (i : ℕ) → i < last → (index : ℕ) → value s.table bucket i ≡ Some index → Visits s.table bucket i index
  visits_before i below index e =
      (omega (arith, ends.0), e, λ k at zero_there. let v = value_before k (omega arith) in let same : v.index ≡ 0 = cc (v.is, zero_there) in omega (arith, v.positive, same))

module _ (s : WithSymbols SysvTable) (name : List ℕ) (bucket last : ℕ) (ends : EndsAt s bucket last) where
  -- what the walk from value i on finds
  pub record Nothing (i : ℕ) : Type 0 where
    pub none : (m : ℕ) → i ≤ m → m < last → IsSomeAnd (value s.table bucket m) (HasName s name) → ⊥

  pub record Something (i : ℕ) (found : ℕ × Symbol) : Type 0 where
    pub place : ℕ
    pub from : i ≤ place
    pub inside : place < last
    pub is : value s.table bucket place ≡ Some found.0
    pub symbol : symbol_and_name s.symbols s.strings found.0 ≡ Some (found.1, name)
    pub first : (m : ℕ) → i ≤ m → m < place → IsSomeAnd (value s.table bucket m) (HasName s name) → ⊥

  abbrev pub WalkAnswer : ℕ → Option (ℕ × Symbol) → Type 0
  WalkAnswer i None = Nothing i
  WalkAnswer i (Some found) = Something i found

  pub record FollowingIndexes (limit i v : ℕ) : Type 0 where
    pub found : Option (ℕ × Symbol)
    pub is : find_along s.table s.symbols s.strings name limit v ≡ Ok found
    pub answer : WalkAnswer i found

  -- a value of another name
  other_name : (i index : ℕ) (found : Symbol × List ℕ) → value s.table bucket i ≡ Some index → symbol_and_name s.symbols s.strings index ≡ Some found → bytes_eq found.1 name ≡ false → IsSomeAnd (value s.table bucket i) (HasName s name) → ⊥
  other_name i index found e d other has =
      let x = some_and (value s.table bucket i) _ has in
      let same : x.0 ≡ index = cc (x.1, e) in
      let y = some_and (symbol_and_name s.symbols s.strings x.0) _ x.2 in
      let there : symbol_and_name s.symbols s.strings x.0 ≡ Some found = ap (λ n. symbol_and_name s.symbols s.strings n) same ∙ d in
      let name_same : found.1 ≡ name = cc (y.1, y.2, there) in
      false≢true (sym other ∙ (bytes_eq-Decides found.1 name).1 name_same)

  there : (i k : ℕ) → i ≡ k → IsSomeAnd (value s.table bucket i) (HasName s name) → IsSomeAnd (value s.table bucket k) (HasName s name)
  there i k e h = let P : ℕ → Type 0 = λ n. IsSomeAnd (value s.table bucket n) (HasName s name) in subst P e h

  widen : (i : ℕ) (found : Option (ℕ × Symbol)) → (IsSomeAnd (value s.table bucket i) (HasName s name) → ⊥) → WalkAnswer (i + 1) found → WalkAnswer i found
  widen i None other rest = record {
    none = λ m from inside has. elim (cases_lt i m) [
      | inl more ↦ rest.none m (omega arith) inside has
      | inr less ↦ other (there m i (omega arith) has)
    ];
  }
  widen i (Some found) other rest = record {
    place = rest.place;
    from = omega (arith, rest.from);
    inside = rest.inside;
    is = rest.is;
    symbol = rest.symbol;
    first = λ m from high has. elim (cases_lt i m) [
      | inl more ↦ rest.first m (omega arith) high has
      | inr less ↦ other (there m i (omega arith) has)
    ];
  }

  one_value : (limit i : ℕ) (v : Value s bucket last ends i) (next : ℕ) → i < last → word_at s.table.chains v.index ≡ Ok next → FollowingIndexes limit (i + 1) next → FollowingIndexes (suc limit) i v.index
  one_value limit i v next below chain rest = elim (cases_Bool (bytes_eq v.found.1 name)) [
    | inl same ↦
        let e : v.found.1 ≡ name = (bytes_eq-Decides v.found.1 name).0 same in
        record {
          found = Some (v.index, v.found.0);
          is = along_found s.table s.symbols s.strings name (suc limit) v.index (v.index, v.found.0) (omega arith) v.positive (with_name s.table s.symbols s.strings name v.index v.found (named_ok s.symbols s.strings v.index v.found v.named) same);
          answer = record {
            place = i;
            from = omega arith;
            inside = below;
            is = v.is;
            symbol = v.named ∙ ap (λ n. Some (v.found.0, n)) e;
            first = λ m low high has. absurd (omega arith);
          };
        }
    | inr other ↦ record {
      found = rest.found;
      is =
          let less : suc limit - 1 ≡ limit = omega arith in
          along_next s.table s.symbols s.strings name (suc limit) v.index next (omega arith) v.positive (with_another s.table s.symbols s.strings name v.index v.found (named_ok s.symbols s.strings v.index v.found v.named) other) chain
          ∙ ap (λ n. find_along s.table s.symbols s.strings name n next) less ∙ rest.is;
      answer = widen i rest.found (other_name i v.index v.found v.is v.named other) rest.answer;
    }
  ]

  -- from value i on, which is n values before the end
  pub walk_from : ReadsBelowCount s.table.chains → (left limit i v : ℕ) → i + left ≡ last → left ≤ limit → value s.table bucket i ≡ Some v → FollowingIndexes limit i v
  walk_from reads zero limit i v all enough e =
      let at : i ≡ last = omega arith in
      let zero_there : v ≡ 0 = cc (e, ends.1, ap (value s.table bucket) at) in
      record {
        found = None;
        is = along_ended s.table s.symbols s.strings name limit v zero_there;
        answer = record { none = λ m from inside has. absurd (omega arith) };
      }
  walk_from reads (suc left) zero i v all enough e = absurd (omega arith)
  walk_from reads (suc left) (suc limit) i v all enough e =
      let x = value_before s bucket last ends i (omega arith) in
      let same : x.index ≡ v = cc (x.is, e) in
      let next = word_below s.table.chains x.index reads x.inside in
      let step : value s.table bucket (suc i) ≡ Some next.0 = ap (chain_word s.table.chains) x.is ∙ word_some s.table.chains x.index next.0 next.1 in
      let more : i + 1 ≡ suc i = omega arith in
      let P : ℕ → Type 0 = λ n. FollowingIndexes (suc limit) i n in
      subst P same (one_value limit i x next.0 (omega arith) next.1 (walk_from reads left limit (i + 1) next.0 (omega arith) (omega arith) (ap (value s.table bucket) more ∙ step)))

module _ (s : WithSymbols SysvTable) (name : List ℕ) where
  -- what is found, and that it is the first of its chain
  pub record Answer : Type 0 where
    pub found : Option (ℕ × Symbol)
    pub is : sysv_find s.table s.symbols s.strings name ≡ Ok found
    pub first : IsFirstNamed s name found

  found_without_buckets : word_count s.table.buckets ≡ 0 → sysv_find s.table s.symbols s.strings name ≡ Ok None
  unfolding sysv_find
  found_without_buckets none = rw none refl

  found_along : 0 < word_count s.table.buckets → (v : ℕ) → word_at s.table.buckets (sysv_hash_of name % word_count s.table.buckets) ≡ Ok v → sysv_find s.table s.symbols s.strings name ≡ find_along s.table s.symbols s.strings name (word_count s.table.chains) v
  unfolding sysv_find
  found_along some v bucket =
      let a : nat_eq (word_count s.table.buckets) 0 ≡ false = grind (arith, common_steps) in
      rw (a, bucket) refl

  -- where an index that is to be found lies: in the chain of a bucket
  pub record Found (bucket i : ℕ) : Type 0 where
    pub place : ℕ
    pub visits : Visits s.table bucket place i
    pub has : IsSomeAnd (value s.table bucket place) (HasName s name)

  in_own_chain : SoundSysv s → (i : ℕ) → ScanSysv s name i → Found (sysv_hash_of name % word_count s.table.buckets) i
  in_own_chain sound i ((bucket, place, below, visits), has) =
      let ends = sound bucket below in
      let inside = before_end s bucket ends.0 ends.1 place visits.2 in
      let v = value_before s bucket ends.0 ends.1 place inside in
      let same : v.index ≡ i = cc (v.is, visits.1) in
      let n = some_and (symbol_and_name s.symbols s.strings i) _ has in
      let there : symbol_and_name s.symbols s.strings i ≡ Some v.found = ap (symbol_and_name s.symbols s.strings) (sym same) ∙ v.named in
      let name_same : v.found.1 ≡ name = cc (n.1, n.2, there) in
      let own : bucket ≡ sysv_hash_of name % word_count s.table.buckets = sym v.hash ∙ ap (λ x. sysv_hash_of x % word_count s.table.buckets) name_same in
      let P : Option ℕ → Type 0 = λ x. IsSomeAnd x (HasName s name) in
      let here : IsSomeAnd (value s.table bucket place) (HasName s name) = subst P (sym visits.1) has in
      let Q : ℕ → Type 0 = λ b. Found b i in
      subst Q own (record { place = place; visits = visits; has = here })

  chain_answer : SoundSysv s → (last : ℕ) (below : sysv_hash_of name % word_count s.table.buckets < word_count s.table.buckets) (ends : EndsAt s (sysv_hash_of name % word_count s.table.buckets) last) (found : Option (ℕ × Symbol)) → WalkAnswer s name (sysv_hash_of name % word_count s.table.buckets) last ends 0 found → IsFirstNamed s name found
  chain_answer sound last below ends None answer = λ i scan.
      let x = in_own_chain sound i scan in
      answer.none x.place (omega arith) (before_end s (sysv_hash_of name % word_count s.table.buckets) last ends x.place x.visits.2) x.has
  chain_answer sound last below ends (Some found) answer = (
    answer.symbol,
    (
      sysv_hash_of name % word_count s.table.buckets,
      answer.place,
      (
        below,
        visits_before s (sysv_hash_of name % word_count s.table.buckets) last ends answer.place answer.inside found.0 answer.is,
        λ i less has. answer.first i (omega arith) less has,
      ),
    ),
  )

  -- on a sound section a look-up is refused nothing, and finds the first index of the name in its chain
  pub sysv_scan : SoundSysv s → SysvReads s.table → Answer
  sysv_scan sound can = elim (cases_lt 0 (word_count s.table.buckets)) [
    | inr none ↦ record {
      found = None;
      is = found_without_buckets (omega arith);
      first = λ i scan. let below = scan.0.2 in absurd (omega (arith, below, none));
    }
    | inl some ↦
        let bucket = sysv_hash_of name % word_count s.table.buckets in
        let below : bucket < word_count s.table.buckets = omega arith in
        let ends = sound bucket below in
        let v = word_below s.table.buckets bucket can.0 below in
        let walk = walk_from s name bucket ends.0 ends.1 can.1 ends.0 (word_count s.table.chains) 0 v.0 (omega arith) ends.1.0 (word_some s.table.buckets bucket v.0 v.1) in
        record { found = walk.found; is = found_along some v.0 v.1 ∙ walk.is; first = chain_answer sound ends.0 below ends.1 walk.found walk.answer }
  ]

-- a chain that ends with some 0, where what comes before it belongs to the bucket, has a first 0
module _ (s : WithSymbols SysvTable) (bucket last : ℕ) (within : last ≤ word_count s.table.chains) (zero_there : value s.table bucket last ≡ Some 0) (belong : (i : ℕ) → i < last → IsSomeAnd (value s.table bucket i) (Belongs s bucket)) where
  abbrev Before : ℕ → Type 0
  Before i = (k : ℕ) → k < i → IsSomeAnd (value s.table bucket k) (λ index. (0 < index) × Belongs s bucket index)

  one_more : (i v : ℕ) → value s.table bucket i ≡ Some v → 0 < v → Belongs s bucket v → Before i → Before (i + 1)
  one_more i v e positive here before k less = elim (cases_lt k i) [
    | inl old ↦ before k old
    | inr new ↦
        let same : i ≡ k = omega arith in
        let there : Some v ≡ value s.table bucket k = sym e ∙ ap (value s.table bucket) same in
        let P : Option ℕ → Type 0 = λ x. IsSomeAnd x (λ index. (0 < index) × Belongs s bucket index) in
        subst P there (positive, here)
  ]

  pub first_end : (left i : ℕ) → i + left ≡ last → Before i → (j : ℕ) × EndsAt s bucket j
  first_end zero i all before =
      let at : i ≡ last = omega arith in
      (i, (omega arith, ap (value s.table bucket) at ∙ zero_there, before))
  first_end (suc left) i all before =
      let v = some_and (value s.table bucket i) _ (belong i (omega arith)) in
      elim (cases_lt 0 v.0) [
        | inl positive ↦ first_end left (i + 1) (omega arith) (one_more i v.0 v.1 positive v.2 before)
        | inr none ↦ let is_zero : v.0 ≡ 0 = omega arith in (i, (omega arith, v.1 ∙ ap Some is_zero, before))
      ]
