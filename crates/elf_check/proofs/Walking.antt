-- Faults that are given on in turn.
use Rattle.std.proofs.Common.{◌≡◌, ◌↔◌, ℕ, zero, suc, ◌+◌, ◌<◌, ◌≤◌, Bool, true, false, cond, nat_lt, List, [], ◌∷◌, ◌++◌, Option, Some, None, IsTrue, is_none, is_some, length, slice_get, take, drop, get_or, refl, ap, sym, ◌∙◌, subst, add-one, append_assoc, inl, inr, arith}
use Rattle.std.proofs.lemmas.Bool.{cases_lt, ltb-false, ltb-true}
use Rattle.std.proofs.lemmas.Grind.{flat_map-append}
use Rattle.std.proofs.lemmas.List.{append-nil, flat_map_more, length-append, take_all, take_more, take-append-drop}
use Rattle.std.proofs.lemmas.Option.{get_or_from_slice_get, slice_get_cases, slice_get_within}
use Rattle.std.specs.Option.{IfSome, IsSomeAnd, MatchOption}
use Rattle.elf_records.specs.declared.section.SectionHeader.{SectionHeader}
use Rattle.elf_reading.specs.declared.versions.VersionSections.{VersionSections}
use Rattle.elf.specs.ObjectFile.{ObjectFile}
use Rattle.elf_check.specs.AllFaults.{AreFaults, IsFaultOfSubject, SoundSubject, Subject, below}
use Rattle.elf_check.specs.FaultWalk.{Checking, IsNextFault, unchecked}
use Rattle.elf_check.specs.Sections.{IsTrueOfSection, IsTrueOfUnnamed, SoundSection, SoundUnnamed}
use Rattle.elf_check.specs.inner.Walk.{IsFaultIfAny}
use Rattle.elf_check.specs.Stages.{begun, checked_in, count_of, stage_subjects, subject_of, subjects_in}
use Rattle.elf_check.specs.versions.InFile.{DefsLack, KnowsVersions, NeedsLack, SoundDefsOf, SoundNeedsOf}
use Rattle.elf_check.specs.declared.walk.Stage.{Stage}
use Rattle.elf_check.specs.declared.faults.FileFault.{FileFault}
use Rattle.elf_check.specs.declared.faults.SectionFault.{SectionFault}
use Rattle.elf_check.specs.declared.versions.EntriesFault.{EntriesFault}
use Rattle.elf_check.proofs.TrueSubjects.{true_subject}
use Rattle.elf_check.proofs.VersionFaults.{both_some, defs_lack, needs_lack}

-- ---- the lesser of a number and a count

lesser_by : (n c : ℕ) (b : Bool) → nat_lt n c ≡ b → n ≤ c → cond b n c ≡ n
lesser_by n c true e most = refl
lesser_by n c false e most = let past = ltb-false n c e in omega (arith, past, most)

lesser : (n c : ℕ) → n ≤ c → cond (nat_lt n c) n c ≡ n
lesser n c most = lesser_by n c (nat_lt n c) refl most

greater_by : (n c : ℕ) (b : Bool) → nat_lt n c ≡ b → c ≤ n → cond b n c ≡ c
greater_by n c true e past = let less = ltb-true n c e in omega (arith, less, past)
greater_by n c false e past = refl

greater : (n c : ℕ) → c ≤ n → cond (nat_lt n c) n c ≡ c
greater n c past = greater_by n c (nat_lt n c) refl past

most_by : (n c : ℕ) (b : Bool) → nat_lt n c ≡ b → cond b n c ≤ c
most_by n c true e = let less = ltb-true n c e in omega (arith, less)
most_by n c false e = omega arith

lesser_most : (n c : ℕ) → cond (nat_lt n c) n c ≤ c
lesser_most n c = most_by n c (nat_lt n c) refl

-- ---- the stages

past_end : (stages : List Stage) (i : ℕ) → slice_get stages i ≡ None → length stages ≤ i
past_end stages i none = elim (slice_get_cases stages i).1 [
  | inl found ↦ absurd (cc (none, found.2))
  | inr past ↦ past.0
]

-- ---- the subjects of the indexes below a number

lesser_more : (subject : ℕ → Subject) (n c : ℕ) → n < c → below subject (cond (nat_lt (n + 1) c) (n + 1) c) ≡ below subject (cond (nat_lt n c) n c) ++ (subject n ∷ [])
lesser_more subject n c less =
    let now : n ≤ c = omega (arith, less) in
    let after : n + 1 ≤ c = omega (arith, less) in
    let one : below subject (n + 1) ≡ below subject n ++ (subject n ∷ []) = rw add-one refl in
    ap (below subject) (lesser (n + 1) c after) ∙ one ∙ sym (ap (λ (k : ℕ). below subject k ++ (subject n ∷ [])) (lesser n c now))

below_split : (subject : ℕ → Subject) (n c : ℕ) → n ≤ c → (rest : List Subject) × (below subject c ≡ below subject n ++ rest)
below_split subject n zero most =
    let none : n ≡ zero = omega (arith, most) in
    ([], sym (append-nil (below subject n) ∙ ap (below subject) none))
below_split subject n (suc c) most = elim (cases_lt n (suc c)) [
  | inl less ↦
      let before : n ≤ c = omega (arith, less) in
      let rest = below_split subject n c before in
      (rest.0 ++ (subject c ∷ []), ap (λ (l : List Subject). l ++ (subject c ∷ [])) rest.1 ∙ append_assoc (below subject n) rest.0 (subject c ∷ []))
  | inr last ↦
      let all : n ≡ suc c = omega (arith, most, last) in
      ([], sym (append-nil (below subject n) ∙ ap (below subject) all))
]

module _ (file : ObjectFile) where
  sound_then : (x : Subject) (xs : List Subject) (faults : List FileFault) → SoundSubject file x → AreFaults file xs faults → AreFaults file (x ∷ xs) faults
  sound_then x xs [] sound after = (sound, after)
  sound_then x xs (fault ∷ faults) sound after = inl (sound, after)

  pub both_are : (xs ys : List Subject) (fs gs : List FileFault) → AreFaults file xs fs → AreFaults file ys gs → AreFaults file (xs ++ ys) (fs ++ gs)
  both_are [] ys [] gs first second = second
  both_are [] ys (f ∷ fs) gs first second = absurd first
  both_are (x ∷ xs) ys [] gs first second = sound_then x (xs ++ ys) gs first.0 (both_are xs ys [] gs first.1 second)
  both_are (x ∷ xs) ys (f ∷ fs) gs (inl first) second = inl (first.0, both_are xs ys (f ∷ fs) gs first.1 second)
  both_are (x ∷ xs) ys (f ∷ fs) gs (inr first) second = inr (first.0, first.1, both_are xs ys fs gs first.2 second)

  -- some stages, and the next one
  stages_more : (stages : List Stage) (i : ℕ) (d : Stage) → i < length stages → subjects_in file (take i stages) ++ stage_subjects file (get_or stages i d) ≡ subjects_in file (take (i + 1) stages)
  stages_more stages i d less =
      flat_map_more (stage_subjects file) [] (take i stages) (get_or stages i d)
      ∙ ap (subjects_in file) (sym (take_more stages i d less))

  -- one more subject of a stage
  pub step_in : (stages : List Stage) (i n : ℕ) (s : Stage) → slice_get stages i ≡ Some s → n < count_of file s → checked_in file stages i (n + 1) ≡ checked_in file stages i n ++ (subject_of s n ∷ [])
  step_in stages i n s here less =
      let first = subjects_in file (take i stages) in
      subst (λ (o : Option Stage). first ++ begun file (n + 1) o ≡ (first ++ begun file n o) ++ (subject_of s n ∷ [])) (sym here)
      (ap (λ (l : List Subject). first ++ l) (lesser_more (subject_of s) n (count_of file s) less) ∙ sym (append_assoc first (begun file n (Some s)) (subject_of s n ∷ [])))

  begun_none : (o : Option Stage) → begun file 0 o ≡ []
  begun_none None = refl
  begun_none (Some s) = ap (below (subject_of s)) (lesser 0 (count_of file s) (let least : 0 ≤ count_of file s = omega arith in least))

  -- on to the next stage
  pub step_over : (stages : List Stage) (i n : ℕ) (s : Stage) → slice_get stages i ≡ Some s → count_of file s ≤ n → checked_in file stages (i + 1) 0 ≡ checked_in file stages i n
  step_over stages i n s here past =
      let first = subjects_in file (take i stages) in
      ap (λ (l : List Subject). subjects_in file (take (i + 1) stages) ++ l) (begun_none (slice_get stages (i + 1)))
      ∙ append-nil (subjects_in file (take (i + 1) stages))
      ∙ sym (stages_more stages i s (slice_get_within stages i s here))
      ∙ ap (λ (x : Stage). first ++ stage_subjects file x) (get_or_from_slice_get stages i s s here)
      ∙ sym (ap (λ (o : Option Stage). first ++ begun file n o) here ∙ ap (λ (k : ℕ). first ++ below (subject_of s) k) (greater n (count_of file s) past))

  -- past the last stage
  pub step_end : (stages : List Stage) (i n : ℕ) → slice_get stages i ≡ None → checked_in file stages i n ≡ subjects_in file stages
  step_end stages i n none =
      ap (λ (o : Option Stage). subjects_in file (take i stages) ++ begun file n o) none
      ∙ append-nil (subjects_in file (take i stages))
      ∙ ap (subjects_in file) (take_all i stages (past_end stages i none))

  split_here : (stages : List Stage) (i n : ℕ) (s : Stage) → slice_get stages i ≡ Some s → (left : List Subject) × (subjects_in file stages ≡ (subjects_in file (take i stages) ++ begun file n (Some s)) ++ left)
  split_here stages i n s here =
      let first = subjects_in file (take i stages) in
      let c = count_of file s in
      let some = begun file n (Some s) in
      let rest = below_split (subject_of s) (cond (nat_lt n c) n c) c (lesser_most n c) in
      let others = subjects_in file (drop (i + 1) stages) in (
        rest.0 ++ others,
        sym (ap (subjects_in file) (take-append-drop (i + 1) stages)) ∙ flat_map-append (stage_subjects file) (take (i + 1) stages) (drop (i + 1) stages)
            ∙ ap (λ (l : List Subject). l ++ others) (sym (stages_more stages i s (slice_get_within stages i s here))
            ∙ ap (λ (x : Stage). first ++ stage_subjects file x) (get_or_from_slice_get stages i s s here)
            ∙ ap (λ (l : List Subject). first ++ l) rest.1 ∙ sym (append_assoc first some rest.0))
            ∙ append_assoc (first ++ some) rest.0 others,
      )

  -- those that were checked are the first of all
  pub checked_first : (stages : List Stage) (i n : ℕ) → (left : List Subject) × (subjects_in file stages ≡ checked_in file stages i n ++ left)
  checked_first stages i n = elim (slice_get_cases stages i).1 [
    | inl found ↦
        subst (λ (o : Option Stage). (left : List Subject) × (subjects_in file stages ≡ (subjects_in file (take i stages) ++ begun file n o) ++ left)) (sym found.2)
        (split_here stages i n found.0 found.2)
    | inr past ↦ ([], sym (append-nil (checked_in file stages i n) ∙ step_end stages i n past.1))
  ]

-- ---- a walk

-- only sound subjects were checked on the way
abbrev pub Passes : Checking → Checking → Type 0
Passes before after =
    (after.file ≡ before.file) × (after.all ≡ before.all)
    × ((more : List Subject) × (after.checked ≡ before.checked ++ more) × AreFaults before.file more [])

pub passes_none : (before : Checking) → Passes before before
passes_none before = (refl, refl, ([], sym (append-nil before.checked), tt))

pub passes_on : (before now after : Checking) → Passes before now → after.file ≡ now.file → after.all ≡ now.all → after.checked ≡ now.checked → Passes before after
passes_on before now after p file all same =
    (file ∙ p.0, all ∙ p.1, (p.2.0, same ∙ p.2.1, p.2.2))

pub passes_one : (before now after : Checking) (x : Subject) → Passes before now → after.file ≡ now.file → after.all ≡ now.all → after.checked ≡ now.checked ++ (x ∷ []) → SoundSubject now.file x → Passes before after
passes_one before now after x p file all more sound = (
  file ∙ p.0,
  all ∙ p.1,
  (
    p.2.0 ++ (x ∷ []),
    more ∙ ap (λ (l : List Subject). l ++ (x ∷ [])) p.2.1 ∙ append_assoc before.checked p.2.0 (x ∷ []),
    both_are before.file p.2.0 (x ∷ []) [] [] p.2.2 (subst (λ (f : ObjectFile). SoundSubject f x) p.0 sound, tt),
  ),
)

fault_after : (before now after : Checking) (x : Subject) (fault : FileFault) → Passes before now → after.file ≡ now.file → after.all ≡ now.all → after.checked ≡ now.checked ++ (x ∷ []) → IsFaultOfSubject now.file x fault → (left : List Subject) × (after.all ≡ after.checked ++ left) → IsNextFault before after (Some fault)
fault_after before now after x fault p file all more bad left =
    let own = subst (λ (f : ObjectFile). IsFaultOfSubject f x fault) p.0 bad in
    let one : AreFaults before.file (x ∷ []) (fault ∷ []) = inr (λ sound. true_subject before.file x fault own sound, own, tt) in (
      file ∙ p.0,
      all ∙ p.1,
      (
        p.2.0 ++ (x ∷ []),
        more ∙ ap (λ (l : List Subject). l ++ (x ∷ [])) p.2.1 ∙ append_assoc before.checked p.2.0 (x ∷ []),
        both_are before.file p.2.0 (x ∷ []) [] (fault ∷ []) p.2.2 one,
        (left.0, sym (all ∙ p.1) ∙ left.1),
      ),
    )

pub some_after : (before now after : Checking) (x : Subject) (o : Option FileFault) → Passes before now → after.file ≡ now.file → after.all ≡ now.all → after.checked ≡ now.checked ++ (x ∷ []) → IsFaultIfAny now.file x o → is_some o ≡ true → (left : List Subject) × (after.all ≡ after.checked ++ left) → IsNextFault before after o
some_after before now after x (Some fault) p file all more bad e left = fault_after before now after x fault p file all more bad left
some_after before now after x None p file all more bad e left = absurd (cc e)

pub sound_if_none : (file : ObjectFile) (x : Subject) (o : Option FileFault) → IsFaultIfAny file x o → is_some o ≡ false → SoundSubject file x
sound_if_none file x (Some fault) found e = absurd (cc e)
sound_if_none file x None found e = found

pub none_after : (before now : Checking) → Passes before now → now.checked ≡ now.all → IsNextFault before now None
none_after before now p all =
    (p.0, p.1, (p.2.0, sym (all ∙ p.1) ∙ p.2.1, p.2.2, all ∙ p.1))

-- no faults, of the subjects that a walk checked before it began
pub none_yet : {file : ObjectFile} {all : List Subject} (walk : Checking) (faults : List FileFault) → walk ≡ unchecked file all → faults ≡ [] → AreFaults walk.file walk.checked faults
none_yet {file = file} {all = all} walk faults starts none =
    subst (λ (x : Checking). AreFaults x.file x.checked faults) (sym starts) (subst (AreFaults file []) (sym none) tt)

-- the next of some faults
pub faults_more : (before after : Checking) (faults : List FileFault) (fault : FileFault) → AreFaults before.file before.checked faults → IsNextFault before after (Some fault) → AreFaults after.file after.checked (faults ++ (fault ∷ []))
faults_more before after faults fault are n =
    let f = n.2 in
    subst (λ (file : ObjectFile). AreFaults file after.checked (faults ++ (fault ∷ []))) (sym n.0)
    (subst (λ (xs : List Subject). AreFaults before.file xs (faults ++ (fault ∷ []))) (sym f.1) (both_are before.file before.checked f.0 faults (fault ∷ []) are f.2))

-- there are no more
pub faults_end : (before after : Checking) (faults : List FileFault) → AreFaults before.file before.checked faults → IsNextFault before after None → AreFaults before.file before.all faults
faults_end before after faults are n =
    let f = n.2 in
    subst (λ (xs : List Subject). AreFaults before.file xs faults) (sym f.1)
    (subst (AreFaults before.file (before.checked ++ f.0)) (append-nil faults) (both_are before.file before.checked f.0 faults [] are f.2))

fewer : (file : ObjectFile) (all before after : List Subject) (fault : FileFault) (more : List Subject) → after ≡ before ++ more → AreFaults file more (fault ∷ []) → (left : List Subject) × (all ≡ after ++ left) → (length before < length after) × (length after ≤ length all)
fewer file all before after fault [] e are left = absurd are
fewer file all before after fault (x ∷ xs) e are left =
    let now = ap length e ∙ length-append before (x ∷ xs) in
    let total = ap length left.1 ∙ length-append after left.0 in
    (omega (arith, now), omega (arith, total))

-- fewer are left
pub fewer_left : (before after : Checking) (fault : FileFault) → IsNextFault before after (Some fault) → (length before.checked < length after.checked) × (length after.checked ≤ length before.all)
fewer_left before after fault n = fewer before.file before.all before.checked after.checked fault n.2.0 n.2.1 n.2.2 n.2.3

-- ---- the subjects of sections

-- a section, if the names can be read, and if they cannot
pub own_named : {N : Type 0} (file : ObjectFile) (s : SectionHeader) (r : Option SectionFault) (names : Option N) (n : N) → names ≡ Some n → MatchOption r (SoundSection file s) (IsTrueOfSection file s) → MatchOption r (MatchOption names (SoundUnnamed file s) (λ m. SoundSection file s)) (λ fault. MatchOption names (IsTrueOfUnnamed file s fault) (λ m. IsTrueOfSection file s fault))
own_named file s r (Some m) n e h = h
own_named file s r None n e h = absurd (cc e)

pub own_unnamed : {N : Type 0} (file : ObjectFile) (s : SectionHeader) (r : Option SectionFault) (names : Option N) → names ≡ None → MatchOption r (SoundUnnamed file s) (IsTrueOfUnnamed file s) → MatchOption r (MatchOption names (SoundUnnamed file s) (λ m. SoundSection file s)) (λ fault. MatchOption names (IsTrueOfUnnamed file s fault) (λ m. IsTrueOfSection file s fault))
own_unnamed file s r (Some m) e h = absurd (cc e)
own_unnamed file s r None e h = h

-- ---- the subjects of versions

-- of two faults there is none exactly if it is known which versions there are
pub known : (file : ObjectFile) (chosen : VersionSections) (d : Option EntriesFault) (b : Bool) → b ≡ is_none d → IfSome chosen.needs (SoundNeedsOf file) → MatchOption d (IfSome chosen.definitions (SoundDefsOf file)) (λ fault. IsSomeAnd chosen.definitions (λ s. DefsLack file s fault)) → IsTrue b ↔ KnowsVersions file chosen
known file chosen None b e needs definitions = (λ t. (needs, definitions), λ k. e)
known file chosen (Some fault) b e needs definitions = (
  λ t. absurd (cc (e, t)),
  λ k. absurd (both_some (SoundDefsOf file) (λ s. DefsLack file s fault) chosen.definitions k.1 definitions (λ s. defs_lack file s fault)),
)

pub unknown : (file : ObjectFile) (chosen : VersionSections) (fault : EntriesFault) (b : Bool) → b ≡ false → IsSomeAnd chosen.needs (λ s. NeedsLack file s fault) → IsTrue b ↔ KnowsVersions file chosen
unknown file chosen fault b e needs = (
  λ t. absurd (cc (e, t)),
  λ k. absurd (both_some (SoundNeedsOf file) (λ s. NeedsLack file s fault) chosen.needs k.0 needs (λ s. needs_lack file s fault)),
)
