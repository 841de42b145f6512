-- The place of the first fault of a SysV section is determined, and so are the fault and how many symbols were read.
use Rattle.std.proofs.Common.{◌≡◌, ◌≢◌, ℕ, zero, suc, ◌%◌, ◌<◌, ◌≤◌, List, Option, Some, None, refl, ap, sym, ◌∙◌, subst, inl, inr, arith}
use Rattle.std.specs.Option.{IsSomeAnd}
use Rattle.std.proofs.lemmas.Bool.{cases_lt}
use Rattle.elf_records.specs.declared.symbol.Symbol.{Symbol}
use Rattle.elf_parts.specs.Hash.{sysv_hash_of, word_count}
use Rattle.elf_parts.specs.SysvFind.{SysvTable}
use Rattle.elf_hash_check.specs.Faults.{IsTrueOfSysv, Reaches}
use Rattle.elf_hash_check.specs.First.{BelongBefore, IsFaultAt, IsFirstAt, IsFirstOfSysv}
use Rattle.elf_hash_check.specs.Reads.{IsCountAt}
use Rattle.elf_hash_check.specs.SoundSysv.{Belongs, EndsAt, value}
use Rattle.elf_hash_check.specs.WithSymbols.{WithSymbols, symbol_and_name}
use Rattle.elf_hash_check.specs.declared.hashcheck.HashFault.{HashFault}
use Rattle.elf_hash_check.specs.declared.hashcheck.HashFault.TheVariants.{Endless, NoBloomBit, NotInRun, PastChains}
use Rattle.elf_hash_check.specs.declared.hashcheck.HashFault.TheVariants.{ShiftTooLarge, Unreadable, WrongBucket}
use Rattle.elf_hash_check.specs.declared.hashcheck.HashFault.TheVariants.{WrongHash}
use Rattle.elf_hash_check.specs.inner.Decisions.{less}
use Rattle.elf_hash_check.proofs.Chosen.{chosen, chosen_one, chosen_other}
use Rattle.elf_hash_check.proofs.Reading.{some_and}

not_both : (o : Option ℕ) (B : ℕ → Type 0) (L : Type 0) → IsSomeAnd o (λ i. (0 < i) × B i) → IsSomeAnd o (λ i. (0 < i) × (L → B i → ⊥)) → L → ⊥
not_both (Some v) B L h k l = k.1 l h.1
not_both None B L h k l = absurd h

positive : (n : ℕ) → n ≢ 0 → 0 < n
positive zero apart = absurd (apart refl)
positive (suc n) apart = omega arith

module _ (s : WithSymbols SysvTable) where
  -- a check stops at value j of a bucket's chain: it is not 0, and does not belong to the bucket or comes after as many
  -- others as there are chain words
  abbrev Stops : ℕ → ℕ → Type 0
  Stops bucket j =
      (j ≤ word_count s.table.chains)
      × IsSomeAnd (value s.table bucket j) (λ index. (0 < index) × (j < word_count s.table.chains → Belongs s bucket index → ⊥))

  -- such a value does not stand before a value before which all belong
  not_before : (bucket j k : ℕ) → BelongBefore s bucket k → k ≤ word_count s.table.chains → Stops bucket j → k ≤ j
  not_before bucket j k before within stops = elim (cases_lt j k) [
    | inl less ↦ absurd (not_both (value s.table bucket j) (Belongs s bucket) (j < word_count s.table.chains) (before j less) stops.1 (omega (arith, less, within)))
    | inr least ↦ least
  ]

  same_place : (bucket j k : ℕ) → BelongBefore s bucket j → BelongBefore s bucket k → Stops bucket j → Stops bucket k → j ≡ k
  same_place bucket j k a b x y = omega (arith, not_before bucket j k b y.0 x, not_before bucket k j a x.0 y)

  -- nor in a chain that ends
  not_in_sound : (bucket j k : ℕ) → BelongBefore s bucket j → Stops bucket j → EndsAt s bucket k → ⊥
  not_in_sound bucket j k before stops ends =
      let P : Option ℕ → Type 0 = λ v. IsSomeAnd v (λ index. (0 < index) × Belongs s bucket index) in
      let Q : Option ℕ → Type 0 = λ v. IsSomeAnd v (λ index. (0 < index) × (j < word_count s.table.chains → Belongs s bucket index → ⊥)) in
      elim (cases_lt j k) [
        | inl less ↦ not_both (value s.table bucket j) (Belongs s bucket) (j < word_count s.table.chains) (ends.2 j less) stops.1 (omega (arith, less, ends.0))
        | inr least ↦ elim (cases_lt k j) [
          | inl less ↦ let zero_there = subst P ends.1 (before k less) in omega (arith, zero_there.0)
          | inr also ↦
              let same : j ≡ k = omega (arith, least, also) in
              let zero_there = subst Q (ap (value s.table bucket) same ∙ ends.1) stops.1 in
              omega (arith, zero_there.0)
        ]
      ]

  -- so it is in one place
  same_in_chain : (b c j k : ℕ) → b ≡ c → BelongBefore s b j → BelongBefore s c k → Stops b j → Stops c k → j ≡ k
  same_in_chain b c j k e before other x y =
      let P : ℕ → Type 0 = λ bucket. BelongBefore s bucket k in
      let Q : ℕ → Type 0 = λ bucket. Stops bucket k in
      same_place b j k before (subst P (sym e) other) x (subst Q (sym e) y)

  AreSound : ℕ → Type 0
  AreSound bucket = (b : ℕ) → b < bucket → (k : ℕ) × EndsAt s b k

  same_bucket : (b c j k : ℕ) → AreSound b → AreSound c → BelongBefore s b j → BelongBefore s c k → Stops b j → Stops c k → b ≡ c
  unfolding AreSound
  same_bucket b c j k sound also before other x y = elim (cases_lt b c) [
    | inl less ↦ let ends = also b less in absurd (not_in_sound b j ends.0 before x ends.1)
    | inr most ↦ elim (cases_lt c b) [
      | inl less ↦ let ends = sound c less in absurd (not_in_sound c k ends.0 other y ends.1)
      | inr least ↦ omega (arith, most, least)
    ]
  ]

  -- ---- a check stops at the place of a fault

  -- an index that a chain visits is not 0
  not_zero : (bucket index : ℕ) → Reaches s bucket index → 0 < index
  not_zero bucket zero (below, (j, visits)) = absurd (visits.2 j (omega arith) visits.1)
  not_zero bucket (suc index) reaches = omega arith

  stops_at : (bucket j index : ℕ) → j ≤ word_count s.table.chains → value s.table bucket j ≡ Some index → 0 < index → (j < word_count s.table.chains → Belongs s bucket index → ⊥) → Stops bucket j
  stops_at bucket j index within at more apart =
      let P : Option ℕ → Type 0 = λ v. IsSomeAnd v (λ i. (0 < i) × (j < word_count s.table.chains → Belongs s bucket i → ⊥)) in
      (within, subst P (sym at) (more, apart))

  stops : (fault : HashFault) → IsTrueOfSysv s fault → (bucket j : ℕ) → IsFaultAt s bucket j fault → Stops bucket j
  stops (Endless b) h bucket j at =
      let within : j ≤ word_count s.table.chains = omega (arith, at.1) in
      let x = some_and (value s.table b j) _ (h.1 j within) in
      let same = ap (λ c. value s.table c j) (sym at.0) in
      stops_at bucket j x.0 within (same ∙ x.1) (positive x.0 x.2) (λ less belongs. omega (arith, less, at.1))
  stops (PastChains b index) h bucket j at =
      stops_at bucket j index (omega (arith, at.1.0)) at.1.1 (not_zero b index h.0) (λ less belongs. omega (arith, belongs.0, h.1))
  stops (Unreadable index) h bucket j at =
      stops_at bucket j index (omega (arith, at.1.0)) at.1.1 (not_zero h.0.0 index h.0.1) (λ less belongs.
      let x = some_and (symbol_and_name s.symbols s.strings index) _ belongs.1 in
      cc (x.1, h.1))
  stops (WrongBucket b index) h bucket j at =
      stops_at bucket j index (omega (arith, at.2.0)) at.2.1 (not_zero b index h.0) (λ less belongs.
      let x = some_and (symbol_and_name s.symbols s.strings index) _ belongs.1 in
      let y = some_and (symbol_and_name s.symbols s.strings index) _ h.1 in
      let same : y.0 ≡ x.0 = cc (x.1, y.1) in
      y.2 (ap (λ (f : Symbol × List ℕ). sysv_hash_of f.1 % word_count s.table.buckets) same ∙ x.2 ∙ sym at.0))
  stops ShiftTooLarge h bucket j at = absurd h
  stops (WrongHash index) h bucket j at = absurd h
  stops (NoBloomBit index) h bucket j at = absurd h
  stops (NotInRun index) h bucket j at = absurd h

  one_place : (one other : HashFault) (b c j k : ℕ) → IsTrueOfSysv s one → IsTrueOfSysv s other → IsFirstAt s b j one → IsFirstAt s c k other → (b ≡ c) × (j ≡ k)
  unfolding AreSound
  one_place one other b c j k g h x y =
      let left = stops one g b j x.2 in
      let right = stops other h c k y.2 in
      let bucket = same_bucket b c j k x.0 y.0 x.1 y.1 left right in
      (bucket, same_in_chain b c j k bucket x.1 y.1 left right)

  -- ---- the count, and the fault

  pub one_count : (fault : HashFault) (old m n : ℕ) → IsTrueOfSysv s fault → IsCountAt s fault old m → IsCountAt s fault old n → m ≡ n
  one_count fault old m n h x y =
      let place = one_place fault fault x.0 y.0 x.1 y.1 h h x.2 y.2 in
      let bucket = place.0 in
      let value = place.1 in
      cc (x.3, y.3, bucket, value)

  -- the fault at an index that has a chain word
  abbrev named : ℕ → ℕ → Option (Symbol × List ℕ) → HashFault
  named bucket index None = Unreadable index
  named bucket index (Some found) = WrongBucket bucket index

  abbrev at_index : ℕ → Option ℕ → HashFault
  at_index bucket None = Endless bucket
  at_index bucket (Some index) =
      chosen (less index (word_count s.table.chains)) (named bucket index (symbol_and_name s.symbols s.strings index)) (PastChains bucket index)

  -- the fault at a value where a check stops
  abbrev fault_at : ℕ → ℕ → HashFault
  fault_at bucket j = chosen (less j (word_count s.table.chains)) (at_index bucket (value s.table bucket j)) (Endless bucket)

  at_value : (fault : HashFault) (bucket j index : ℕ) → j < word_count s.table.chains → value s.table bucket j ≡ Some index → fault ≡ at_index bucket (Some index) → fault ≡ fault_at bucket j
  at_value fault bucket j index less_j at e =
      e ∙ ap (at_index bucket) (sym at)
      ∙ chosen_one (less j (word_count s.table.chains)) (at_index bucket (value s.table bucket j)) (Endless bucket) less_j

  at_name : (fault : HashFault) (bucket index : ℕ) (name : Option (Symbol × List ℕ)) → index < word_count s.table.chains → symbol_and_name s.symbols s.strings index ≡ name → fault ≡ named bucket index name → fault ≡ at_index bucket (Some index)
  at_name fault bucket index name inside is e =
      e ∙ ap (named bucket index) (sym is)
      ∙ chosen_one (less index (word_count s.table.chains)) (named bucket index (symbol_and_name s.symbols s.strings index)) (PastChains bucket index) inside

  fault_is : (fault : HashFault) → IsTrueOfSysv s fault → (bucket j : ℕ) → IsFaultAt s bucket j fault → fault ≡ fault_at bucket j
  fault_is (Endless b) h bucket j at =
      ap Endless at.0
      ∙ chosen_other (less j (word_count s.table.chains)) (at_index bucket (value s.table bucket j)) (Endless bucket) (λ l. omega (arith, l, at.1))
  fault_is (PastChains b index) h bucket j at =
      at_value (PastChains b index) bucket j index at.1.0 at.1.1
      (ap (λ c. PastChains c index) at.0
      ∙ chosen_other (less index (word_count s.table.chains)) (named bucket index (symbol_and_name s.symbols s.strings index)) (PastChains bucket index) (λ l. omega (arith, l, h.1)))
  fault_is (Unreadable index) h bucket j at =
      at_value (Unreadable index) bucket j index at.1.0 at.1.1 (at_name (Unreadable index) bucket index None at.0 h.1 refl)
  fault_is (WrongBucket b index) h bucket j at =
      let x = some_and (symbol_and_name s.symbols s.strings index) _ h.1 in
      at_value (WrongBucket b index) bucket j index at.2.0 at.2.1
      (at_name (WrongBucket b index) bucket index (Some x.0) at.1 x.1 (ap (λ c. WrongBucket c index) at.0))
  fault_is ShiftTooLarge h bucket j at = absurd h
  fault_is (WrongHash index) h bucket j at = absurd h
  fault_is (NoBloomBit index) h bucket j at = absurd h
  fault_is (NotInRun index) h bucket j at = absurd h

  pub one_sysv_fault : (one other : HashFault) → IsFirstOfSysv s one → IsFirstOfSysv s other → one ≡ other
  one_sysv_fault one other (g, (b, j, x)) (h, (c, k, y)) =
      let place = one_place one other b c j k g h x y in
      fault_is one g b j x.2 ∙ ap (λ n. fault_at n j) place.0 ∙ ap (fault_at c) place.1 ∙ sym (fault_is other h c k y.2)
