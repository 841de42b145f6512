-- A fault that is true of a GNU section means that the section is not sound; and it has one first fault.
use Rattle.std.proofs.Common.{◌≡◌, ℕ, ◌+◌, ◌/◌, ◌<◌, ◌≤◌, ◌⊎◌, List, Option, Some, None, refl, ap, sym, ◌∙◌, subst, inl, inr, arith}
use Rattle.std.specs.Option.{IsSomeAnd}
use Rattle.std.proofs.lemmas.Bool.{cases_lt}
use Rattle.elf_records.specs.declared.symbol.Symbol.{Symbol}
use Rattle.elf_parts.specs.GnuFind.{GnuTable}
use Rattle.elf_parts.specs.Hash.{gnu_hash_of}
use Rattle.elf_hash_check.specs.Faults.{IsTrueOfGnu, WordLacks}
use Rattle.elf_hash_check.specs.First.{IsAfter, IsFirstOfGnu}
use Rattle.elf_hash_check.specs.Reads.{gnu_reads}
use Rattle.elf_hash_check.specs.SoundGnu.{HasBothBits, InRun, SoundGnu, SoundWord}
use Rattle.elf_hash_check.specs.WithSymbols.{WithSymbols, symbol_and_name, word}
use Rattle.elf_hash_check.specs.declared.hashcheck.HashFault.{HashFault}
use Rattle.elf_hash_check.specs.declared.hashcheck.HashFault.TheVariants.{Endless, NoBloomBit, NotInRun, PastChains}
use Rattle.elf_hash_check.specs.declared.hashcheck.HashFault.TheVariants.{ShiftTooLarge, Unreadable, WrongBucket}
use Rattle.elf_hash_check.specs.declared.hashcheck.HashFault.TheVariants.{WrongHash}
use Rattle.elf_hash_check.specs.inner.Decisions.{equal, has_both_bits}
use Rattle.elf_hash_check.proofs.Chosen.{chosen, chosen_one, chosen_other}
use Rattle.elf_hash_check.proofs.Reading.{some_and}

not_both : {A : Type 0} (o : Option A) (P Q : A → Type 0) → ((x : A) → P x → Q x → ⊥) → IsSomeAnd o P → IsSomeAnd o Q → ⊥
not_both (Some x) P Q apart p q = apart x p q
not_both None P Q apart p q = absurd p

module _ (s : WithSymbols GnuTable) where
  abbrev Name : Type 0
  Name = Option (Symbol × List ℕ)

  -- ---- the fault at an index, by its chain word and its name

  abbrev has_hash : (w : ℕ) (found : Symbol × List ℕ) → (w / 2 ≡ gnu_hash_of found.1 / 2) ⊎ (w / 2 ≡ gnu_hash_of found.1 / 2 → ⊥)
  has_hash w found = equal (w / 2) (gnu_hash_of found.1 / 2)

  abbrev after_hash : ℕ → Symbol × List ℕ → HashFault
  after_hash index found = chosen (has_both_bits s.table (gnu_hash_of found.1)) (NotInRun index) (NoBloomBit index)

  abbrev fault_of : ℕ → ℕ → Name → HashFault
  fault_of index w None = Unreadable index
  fault_of index w (Some found) = chosen (has_hash w found) (after_hash index found) (WrongHash index)

  of_hash : (index w : ℕ) (name : Name) → IsSomeAnd name (λ found. w / 2 ≡ gnu_hash_of found.1 / 2 → ⊥) → WrongHash index ≡ fault_of index w name
  of_hash index w (Some found) h = chosen_other (has_hash w found) (after_hash index found) (WrongHash index) h
  of_hash index w None h = absurd h

  of_bits : (index w : ℕ) (name : Name) → IsSomeAnd name (λ found. (w / 2 ≡ gnu_hash_of found.1 / 2) × (HasBothBits s.table (gnu_hash_of found.1) → ⊥)) → NoBloomBit index ≡ fault_of index w name
  of_bits index w (Some found) h =
      chosen_other (has_both_bits s.table (gnu_hash_of found.1)) (NotInRun index) (NoBloomBit index) h.1
      ∙ chosen_one (has_hash w found) (after_hash index found) (WrongHash index) h.0
  of_bits index w None h = absurd h

  of_run : (index k w : ℕ) (name : Name) → IsSomeAnd name (λ found. (w / 2 ≡ gnu_hash_of found.1 / 2) × HasBothBits s.table (gnu_hash_of found.1) × (InRun s.table k (gnu_hash_of found.1) → ⊥)) → NotInRun index ≡ fault_of index w name
  of_run index k w (Some found) h =
      chosen_one (has_both_bits s.table (gnu_hash_of found.1)) (NotInRun index) (NoBloomBit index) h.1
      ∙ chosen_one (has_hash w found) (after_hash index found) (WrongHash index) h.0
  of_run index k w None h = absurd h

  -- ---- the chain word of a fault

  abbrev name_of : ℕ → Name
  name_of index = symbol_and_name s.symbols s.strings index

  -- it is not sound, and the fault is the one at its index
  pub record Lacking (fault : HashFault) : Type 0 where
    pub shift : s.table.hdr.nshift < 32
    pub k : ℕ
    pub w : ℕ
    pub is : word s.table.chains k ≡ Some w
    pub unsound : SoundWord s k w → ⊥
    pub after : (j : ℕ) → j < k → IsAfter s j fault
    pub fault_is : fault ≡ fault_of (s.table.hdr.table_start_idx + k) w (name_of (s.table.hdr.table_start_idx + k))

  abbrev Case : HashFault → Type 0
  Case fault = ((fault ≡ ShiftTooLarge) × (32 ≤ s.table.hdr.nshift)) ⊎ Lacking fault

  -- of an index that lacks something, which a sound word does not
  lacking : (fault : HashFault) (index : ℕ) (Lacks : ℕ → ℕ → Type 0) → WordLacks s index Lacks →
      ((k w : ℕ) → index ≡ s.table.hdr.table_start_idx + k → Lacks k w → SoundWord s k w → ⊥) →
      ((k w : ℕ) → Lacks k w → fault ≡ fault_of index w (name_of index)) →
      ((j : ℕ) → s.table.hdr.table_start_idx + j < index → IsAfter s j fault) → Case fault
  lacking fault index Lacks h apart is after =
      let w = some_and (word s.table.chains h.1.0) (Lacks h.1.0) h.1.2 in
      inr (record {
        shift = h.0;
        k = h.1.0;
        w = w.0;
        is = w.1;
        unsound = apart h.1.0 w.0 h.1.1 w.2;
        after = λ j less. after j (omega (arith, less, h.1.1));
        fault_is = is h.1.0 w.0 w.2 ∙ ap (λ n. fault_of n w.0 (name_of n)) h.1.1;
      })

  -- the name that a fault reads is that of the chain word
  there : (index k : ℕ) (P : Symbol × List ℕ → Type 0) → index ≡ s.table.hdr.table_start_idx + k → IsSomeAnd (name_of index) P → IsSomeAnd (name_of (s.table.hdr.table_start_idx + k)) P
  there index k P e h = let Q : ℕ → Type 0 = λ n. IsSomeAnd (name_of n) P in subst Q e h

  none_there : (o : Name) (P : Symbol × List ℕ → Type 0) → o ≡ None → IsSomeAnd o P → ⊥
  none_there (Some found) P e h = cc
  none_there None P e h = absurd h

  case : (fault : HashFault) → IsTrueOfGnu s fault → Case fault
  case ShiftTooLarge h = inl (refl, h)
  case (Unreadable index) h =
      lacking (Unreadable index) index _ h
      (λ k w e lacks sound. none_there (name_of (s.table.hdr.table_start_idx + k)) _ (sym (ap (λ n. name_of n) e) ∙ lacks) sound)
      (λ k w lacks. ap (fault_of index w) (sym lacks))
      (λ j less. less)
  case (WrongHash index) h =
      lacking (WrongHash index) index _ h
      (λ k w e lacks sound. not_both (name_of (s.table.hdr.table_start_idx + k)) _ _ (λ found p q. q p.0) sound (there index k _ e lacks))
      (λ k w lacks. of_hash index w (name_of index) lacks)
      (λ j less. less)
  case (NoBloomBit index) h =
      lacking (NoBloomBit index) index _ h
      (λ k w e lacks sound. not_both (name_of (s.table.hdr.table_start_idx + k)) _ _ (λ found p q. q.1 p.1) sound (there index k _ e lacks))
      (λ k w lacks. of_bits index w (name_of index) lacks)
      (λ j less. less)
  case (NotInRun index) h =
      lacking (NotInRun index) index _ h
      (λ k w e lacks sound. not_both (name_of (s.table.hdr.table_start_idx + k)) _ _ (λ found p q. q.2 p.2) sound (there index k _ e lacks))
      (λ k w lacks. of_run index k w (name_of index) lacks)
      (λ j less. less)
  case (Endless bucket) h = absurd h
  case (PastChains bucket index) h = absurd h
  case (WrongBucket bucket index) h = absurd h

  pub true_fault : SoundGnu s → (fault : HashFault) → IsTrueOfGnu s fault → ⊥
  true_fault sound fault h = elim (case fault h) [
    | inl shift ↦ omega (arith, sound.0, shift.1)
    | inr lacks ↦ lacks.unsound (sound.1 lacks.k lacks.w lacks.is)
  ]

  -- ---- the first fault

  -- after as many reads as a fault names, each chain word before was read
  pub before_place : (fault : HashFault) (k place : ℕ) → gnu_reads s.table fault ≡ place + 1 → IsAfter s k fault → k < place
  before_place (Unreadable index) k place reads after = omega (arith, reads, after)
  before_place (WrongHash index) k place reads after = omega (arith, reads, after)
  before_place (NoBloomBit index) k place reads after = omega (arith, reads, after)
  before_place (NotInRun index) k place reads after = omega (arith, reads, after)
  before_place ShiftTooLarge k place reads after = absurd after
  before_place (Endless bucket) k place reads after = absurd after
  before_place (PastChains bucket index) k place reads after = absurd after
  before_place (WrongBucket bucket index) k place reads after = absurd after

  one_word : (one other : HashFault) → IsFirstOfGnu s one → IsFirstOfGnu s other → (a : Lacking one) (b : Lacking other) → a.k ≡ b.k
  one_word one other x y a b = elim (cases_lt a.k b.k) [
    | inl less ↦ absurd (a.unsound (y.1 a.k a.w (b.after a.k less) a.is))
    | inr most ↦ elim (cases_lt b.k a.k) [
      | inl less ↦ absurd (b.unsound (x.1 b.k b.w (a.after b.k less) b.is))
      | inr least ↦ omega (arith, most, least)
    ]
  ]

  one_lacking : (one other : HashFault) → IsFirstOfGnu s one → IsFirstOfGnu s other → Lacking one → Lacking other → one ≡ other
  one_lacking one other x y a b =
      let place = one_word one other x y a b in
      let chain : a.w ≡ b.w = cc (a.is, b.is, place) in
      a.fault_is
      ∙ ap (λ k. fault_of (s.table.hdr.table_start_idx + k) a.w (name_of (s.table.hdr.table_start_idx + k))) place
      ∙ ap (λ w. fault_of (s.table.hdr.table_start_idx + b.k) w (name_of (s.table.hdr.table_start_idx + b.k))) chain
      ∙ sym b.fault_is

  pub one_gnu_fault : (one other : HashFault) → IsFirstOfGnu s one → IsFirstOfGnu s other → one ≡ other
  one_gnu_fault one other x y = elim (case one x.0) [
    | inl a ↦ elim (case other y.0) [
      | inl b ↦ a.0 ∙ sym b.0
      | inr b ↦ absurd (omega (arith, a.1, b.shift))
    ]
    | inr a ↦ elim (case other y.0) [
      | inl b ↦ absurd (omega (arith, b.1, a.shift))
      | inr b ↦ one_lacking one other x y a b
    ]
  ]
