-- A file is sound exactly if each of its subjects is; and the first of its faults is true also by what is checked before
-- it.
use Rattle.std.proofs.Common.{◌≡◌, ◌↔◌, ◌⊎◌, ℕ, zero, suc, ◌<◌, Bool, true, false, cond, List, [], ◌∷◌, ◌++◌, length, map, Option, Some, None, Result, Ok, Err, refl, ap, sym, ◌∙◌, subst, inl, inr, arith}
use Rattle.std.proofs.lemmas.Bool.{cases_lt}
use Rattle.std.proofs.lemmas.Option.{slice_get_within}
use Rattle.std.proofs.lemmas.Result.{IfOk-at_ok}
use Rattle.std.specs.List.{AllByRecursion, find, slice_get}
use Rattle.std.specs.Option.{IfSome, IsSomeAnd, MatchOption}
use Rattle.std.specs.Result.{IfOk, IsOk, IsOkAnd, result_ok}
use Rattle.elf_records.specs.declared.section.SectionHeader.{SectionHeader}
use Rattle.elf_records.specs.declared.segment.ProgramHeader.{ProgramHeader}
use Rattle.elf_reading.specs.Versions.{version_sections}
use Rattle.elf_reading.specs.declared.versions.VersionSections.{VersionSections}
use Rattle.elf.specs.Names.{name_table}
use Rattle.elf.specs.ObjectFile.{ObjectFile}
use Rattle.elf_check.specs.AllFaults.{AreFaults, IsFaultOfSubject, IsTrueByItself, LoadOrder, SectionAt, SectionNames}
use Rattle.elf_check.specs.AllFaults.{SegmentAt, SingleType, SoundByItself, SoundSubject, StartsAsChecked, Subject}
use Rattle.elf_check.specs.AllFaults.{below, section_subjects, segment_subjects, subjects, type_subjects}
use Rattle.elf_check.specs.AllFaults.{version_subjects}
use Rattle.elf_check.specs.FaultWalk.{Checking, IsNextFault, unchecked}
use Rattle.elf_check.specs.Faults.{IsTrueOfFile}
use Rattle.elf_check.specs.Members.{AllSound}
use Rattle.elf_check.specs.Sections.{IsTrueOfSection, IsTrueOfUnnamed, SoundSection, SoundUnnamed, is_repeated}
use Rattle.elf_check.specs.Sections.{repeated_type, single_types}
use Rattle.elf_check.specs.Segments.{SoundSegment, SoundSegments, SoundTypes}
use Rattle.elf_check.specs.SegmentsFaults.{IsTrueOfSegments}
use Rattle.elf_check.specs.Sound.{SoundFile}
use Rattle.elf_check.specs.versions.InFile.{IsTrueOfDefs, IsTrueOfIndexSection, IsTrueOfNeeds, IsTrueOfVersions}
use Rattle.elf_check.specs.versions.InFile.{IsTrueOfVersionsOf, SoundDefsOf, SoundIndexSection, SoundNeedsOf}
use Rattle.elf_check.specs.versions.InFile.{SoundVersions, SoundVersionsOf}
use Rattle.elf_check.specs.declared.faults.FileFault.{FileFault}
use Rattle.elf_check.specs.declared.faults.FileFault.TheVariants.{Repeated, Section, Segments, Versions}
use Rattle.elf_check.specs.declared.faults.SectionFault.{SectionFault}
use Rattle.elf_check.specs.declared.faults.VersionsFault.{VersionsFault}
use Rattle.elf_check.specs.declared.segments.faults.SegmentsFault.{SegmentsFault}
use Rattle.elf_check.specs.declared.segments.faults.SegmentsFault.TheVariants.{OverlappingLoad, PhdrAfterLoad}
use Rattle.elf_check.specs.declared.segments.faults.SegmentsFault.TheVariants.{SecondDynamic, SecondInterp, SecondPhdr}
use Rattle.elf_check.specs.declared.segments.faults.SegmentsFault.TheVariants.{SecondTls, Segment as OfSegment}
use Rattle.elf_check.proofs.TrueSubjects.{true_subject}
use Rattle.elf_check.proofs.Verdicts.{weaker}

-- ---- lists

module _ {A : Type 0} (P : A → Type 0) where
  all_left : (xs ys : List A) → AllByRecursion P (xs ++ ys) → AllByRecursion P xs
  all_left [] ys all = tt
  all_left (x ∷ xs) ys all = (all.0, all_left xs ys all.1)

  all_right : (xs ys : List A) → AllByRecursion P (xs ++ ys) → AllByRecursion P ys
  all_right [] ys all = all
  all_right (x ∷ xs) ys all = all_right xs ys all.1

  all_both : (xs ys : List A) → AllByRecursion P xs → AllByRecursion P ys → AllByRecursion P (xs ++ ys)
  all_both [] ys first second = second
  all_both (x ∷ xs) ys first second = (first.0, all_both xs ys first.1 second)

module _ (P : Subject → Type 0) (subject : ℕ → Subject) where
  all_below : (n : ℕ) → AllByRecursion P (below subject n) → (i : ℕ) → i < n → P (subject i)
  all_below zero all i less = absurd (omega (arith, less))
  all_below (suc n) all i less = elim (cases_lt i n) [
    | inl old ↦ all_below n (all_left P (below subject n) (subject n ∷ []) all) i old
    | inr new ↦
        let here : n ≡ i = omega (arith, less, new) in
        subst (λ (k : ℕ). P (subject k)) here (all_right P (below subject n) (subject n ∷ []) all).0
  ]

  below_all : (n : ℕ) → ((i : ℕ) → i < n → P (subject i)) → AllByRecursion P (below subject n)
  below_all zero each = tt
  below_all (suc n) each =
      let last : n < suc n = omega arith in
      all_both P (below subject n) (subject n ∷ []) (below_all n (λ i less. each i (let more : i < suc n = omega (arith, less) in more))) (each n last, tt)

-- ---- the first fault of some subjects: that of one whose earlier ones are sound

abbrev pub FirstIn : ObjectFile → List Subject → FileFault → Type 0
FirstIn file [] fault = ⊥
FirstIn file (x ∷ xs) fault = IsFaultOfSubject file x fault ⊎ (SoundSubject file x × FirstIn file xs fault)

module _ (file : ObjectFile) (fault : FileFault) where
  first_in : (xs : List Subject) (faults : List FileFault) → AreFaults file xs (fault ∷ faults) → FirstIn file xs fault
  first_in [] faults are = are
  first_in (x ∷ xs) faults (inl are) = inr (are.0, first_in xs faults are.1)
  first_in (x ∷ xs) faults (inr are) = inl are.1

  first_before : (xs ys : List Subject) → FirstIn file xs fault → FirstIn file (xs ++ ys) fault
  first_before [] ys first = absurd first
  first_before (x ∷ xs) ys (inl here) = inl here
  first_before (x ∷ xs) ys (inr first) = inr (first.0, first_before xs ys first.1)

  pub not_sound : (xs : List Subject) → FirstIn file xs fault → AllByRecursion (SoundSubject file) xs → ⊥
  not_sound [] first all = absurd first
  not_sound (x ∷ xs) (inl here) all = true_subject file x fault here all.0
  not_sound (x ∷ xs) (inr first) all = not_sound xs first.1 all.1

  -- where a walk begins, if its first fault is this one
  pub first_next : (before after : Checking) (all : List Subject) → before ≡ unchecked file all → IsNextFault before after (Some fault) → FirstIn file all fault
  first_next before after all new next =
      let f = (subst (λ (b : Checking). IsNextFault b after (Some fault)) new next).2 in
      let left = f.3.0 in
      subst (λ (xs : List Subject). FirstIn file xs fault) (sym (f.3.1 ∙ ap (λ (xs : List Subject). xs ++ left) f.1))
      (first_before f.0 left (first_in f.0 [] f.2))

  -- in the first of two lists, or in the second
  either : {C : Type 0} (xs ys : List Subject) → FirstIn file (xs ++ ys) fault → (FirstIn file xs fault → C) → (AllByRecursion (SoundSubject file) xs → FirstIn file ys fault → C) → C
  either [] ys first one other = other tt first
  either (x ∷ xs) ys (inl here) one other = one (inl here)
  either (x ∷ xs) ys (inr first) one other =
      either xs ys first.1 (λ r. one (inr (first.0, r))) (λ all r. other (first.0, all) r)

  only : (x : Subject) → FirstIn file (x ∷ []) fault → IsFaultOfSubject file x fault
  only x (inl here) = here
  only x (inr none) = absurd none.1

  -- that of an index, where the subjects of those before it are sound
  abbrev FirstBelow : (ℕ → Subject) → ℕ → Type 0
  FirstBelow subject n =
      (i : ℕ) × (i < n) × IsFaultOfSubject file (subject i) fault × ((k : ℕ) → k < i → SoundSubject file (subject k))

  first_below : (subject : ℕ → Subject) (n : ℕ) → FirstIn file (below subject n) fault → FirstBelow subject n
  first_below subject zero first = absurd first
  first_below subject (suc n) first =
      either {C = FirstBelow subject (suc n)} (below subject n) (subject n ∷ []) first
      (λ r. let b = first_below subject n r in let less = b.1 in (b.0, omega (arith, less), b.2, b.3))
      (λ all r. (n, omega arith, only (subject n) r, all_below (SoundSubject file) subject n all))

-- ---- a section

by_names : {N E : Type 0} (A B : Type 0) (r : Result N E) → IsOk r → MatchOption (result_ok r) A (λ n. B) ↔ B
by_names A B (Ok n) ok = (λ h. h, λ h. h)
by_names A B (Err e) ok = absurd (cc ok)

-- each section, by those of the indexes below a number
sections_sound : (file : ObjectFile) (n : ℕ) → IsOk (name_table file) → ((i : ℕ) → i < n → SoundSubject file (SectionAt i)) → (i : ℕ) (s : SectionHeader) → i < n → file.section_at i ≡ Ok s → SoundSection file s
sections_sound file n named each i s less e =
    (by_names (SoundUnnamed file s) (SoundSection file s) (name_table file) named).0 (IfOk-at_ok (SoundByItself file) e (each i less))

ok_each : {A E : Type 0} (P : A → Type 0) (r : Result A E) → ((x : A) → r ≡ Ok x → P x) → IfOk r P
ok_each P (Ok x) each = each x refl
ok_each P (Err e) each = tt

section_true : (file : ObjectFile) (i : ℕ) (own : SectionFault) → IsOk (name_table file) → repeated_type file ≡ None → IsOkAnd (file.section_at i) (λ s. IsTrueByItself file s own) → ((k : ℕ) → k < i → SoundSubject file (SectionAt k)) → IsTrueOfFile file (Section i own)
section_true file i own named single here before = (
  named,
  single,
  record {
    true = weaker (λ s. IsTrueByItself file s own) (λ s. IsTrueOfSection file s own) (file.section_at i)
        (λ s t. (by_names (IsTrueOfUnnamed file s own) (IsTrueOfSection file s own) (name_table file) named).0 t) here;
    before = λ k s less e. sections_sound file i named before k s less e;
  },
)

-- ---- types of sections

none_repeated : (sections : List SectionHeader) (types : List ℕ) → AllByRecursion (λ t. is_repeated sections t ≡ false) types → find (is_repeated sections) types ≡ None
none_repeated sections [] all = refl
none_repeated sections (t ∷ types) all =
    ap (λ (b : Bool). cond b (Some t) (find (is_repeated sections) types)) all.0 ∙ none_repeated sections types all.1

not_here : (t : ℕ) (b : Bool) (rest : Option ℕ) → cond b (Some t) rest ≡ None → (b ≡ false) × (rest ≡ None)
not_here t true rest e = absurd (cc e)
not_here t false rest e = (refl, e)

each_single : (sections : List SectionHeader) (types : List ℕ) → find (is_repeated sections) types ≡ None → AllByRecursion (λ t. is_repeated sections t ≡ false) types
each_single sections [] e = tt
each_single sections (t ∷ types) e =
    let r = not_here t (is_repeated sections t) (find (is_repeated sections) types) e in
    (r.0, each_single sections types r.1)

first_type : (file : ObjectFile) (types : List ℕ) (fault : FileFault) → FirstIn file (map SingleType types) fault → (t : ℕ) × (fault ≡ Repeated t) × (find (is_repeated file.sections) types ≡ Some t)
first_type file [] fault first = absurd first
first_type file (t ∷ types) fault (inl here) =
    (t, here.0, ap (λ (b : Bool). cond b (Some t) (find (is_repeated file.sections) types)) here.1)
first_type file (t ∷ types) fault (inr first) =
    let r = first_type file types fault first.1 in
    (r.0, r.1, ap (λ (b : Bool). cond b (Some t) (find (is_repeated file.sections) types)) first.0 ∙ r.2)

first_of_names : (file : ObjectFile) (fault : FileFault) → FirstIn file ((SectionNames ∷ []) ++ map SingleType single_types) fault → IsTrueOfFile file fault
first_of_names file fault (inl t) = subst (IsTrueOfFile file) (sym t.0) t.1
first_of_names file fault (inr first) =
    let r = first_type file single_types fault first.1 in subst (IsTrueOfFile file) (sym r.1) (first.0, r.2)

-- ---- versions

module _ (file : ObjectFile) (chosen : VersionSections) where
  versions_from : (o : Option SectionHeader) → IfSome o (λ s. IfSome chosen.needs (SoundNeedsOf file)) → IfSome o (λ s. IfSome chosen.definitions (SoundDefsOf file)) → IfSome o (SoundIndexSection file chosen) → IfSome o (SoundVersionsOf file chosen)
  versions_from None needs definitions indexes = tt
  versions_from (Some s) needs definitions indexes =
      record { needs = needs; definitions = definitions; whole = indexes.whole; indexes = indexes.indexes (needs, definitions) }

  needs_of : (o : Option SectionHeader) → IfSome o (SoundVersionsOf file chosen) → IfSome o (λ s. IfSome chosen.needs (SoundNeedsOf file))
  needs_of None sound = tt
  needs_of (Some s) sound = sound.needs

  definitions_of : (o : Option SectionHeader) → IfSome o (SoundVersionsOf file chosen) → IfSome o (λ s. IfSome chosen.definitions (SoundDefsOf file))
  definitions_of None sound = tt
  definitions_of (Some s) sound = sound.definitions

  indexes_of : (o : Option SectionHeader) → IfSome o (SoundVersionsOf file chosen) → IfSome o (SoundIndexSection file chosen)
  indexes_of None sound = tt
  indexes_of (Some s) sound = record { whole = sound.whole; indexes = λ known. sound.indexes }

some_map : {A : Type 0} (P Q : A → Type 0) (o : Option A) → ((x : A) → P x → Q x) → IsSomeAnd o P → IsSomeAnd o Q
some_map P Q (Some x) f p = f x p
some_map P Q None f p = p

some_both : {A : Type 0} (P Q R : A → Type 0) (o : Option A) → ((x : A) → P x → Q x → R x) → IfSome o P → IsSomeAnd o Q → IsSomeAnd o R
some_both P Q R (Some x) f p q = f x p q
some_both P Q R None f p q = q

both_if : {A : Type 0} (P Q : A → Type 0) (o : Option A) → IfSome o P → IfSome o Q → IfSome o (λ x. P x × Q x)
both_if P Q (Some x) p q = (p, q)
both_if P Q None p q = tt

-- a fault of versions that is the first one of the three
abbrev VersionsTrue : ObjectFile → FileFault → Type 0
VersionsTrue file fault = (own : VersionsFault) × (fault ≡ Versions own) × IsTrueOfVersions file own

first_of_versions : (file : ObjectFile) (fault : FileFault) → FirstIn file version_subjects fault → VersionsTrue file fault
first_of_versions file fault (inl t) =
    let chosen = version_sections file.sections in
    (t.0, t.1, some_map (λ s. IsSomeAnd chosen.needs (λ n. IsTrueOfNeeds file n t.0)) (λ s. IsTrueOfVersionsOf file chosen s t.0) chosen.indexes (λ s bad. inl bad) t.2)
first_of_versions file fault (inr (needs, inl t)) =
    let chosen = version_sections file.sections in
    let N : SectionHeader → Type 0 = λ s. IfSome chosen.needs (SoundNeedsOf file) in
    (t.0, t.1, some_both N (λ s. IsSomeAnd chosen.definitions (λ d. IsTrueOfDefs file d t.0)) (λ s. IsTrueOfVersionsOf file chosen s t.0) chosen.indexes (λ s sound bad. inr (inl (sound, bad))) needs t.2)
first_of_versions file fault (inr (needs, inr (definitions, inl t))) =
    let chosen = version_sections file.sections in
    let N : SectionHeader → Type 0 = λ s. IfSome chosen.needs (SoundNeedsOf file) in
    let D : SectionHeader → Type 0 = λ s. IfSome chosen.definitions (SoundDefsOf file) in
    (t.0, t.1, some_both (λ s. N s × D s) (λ s. IsTrueOfIndexSection file chosen s t.0) (λ s. IsTrueOfVersionsOf file chosen s t.0) chosen.indexes (λ s known bad. inr (inr (known, bad))) (both_if N D chosen.indexes needs definitions) t.2)
first_of_versions file fault (inr (needs, inr (definitions, inr none))) = absurd none.1

-- ---- segments

if_some_at : {A : Type 0} (P : A → Type 0) (o : Option A) (x : A) → o ≡ Some x → IfSome o P → P x
if_some_at {A = A} P o x e h = subst (λ (q : Option A). IfSome q P) e h

some_each : {A : Type 0} (P : A → Type 0) (o : Option A) → ((x : A) → o ≡ Some x → P x) → IfSome o P
some_each P None each = tt
some_each P (Some x) each = each x refl

segments_sound : (file : ObjectFile) (n : ℕ) → ((i : ℕ) → i < n → SoundSubject file (SegmentAt i)) → (i : ℕ) (p : ProgramHeader) → i < n → slice_get file.segments i ≡ Some p → SoundSegment file p
segments_sound file n each i p less e = if_some_at (SoundSegment file) (slice_get file.segments i) p e (each i less)

types_sound : (file : ObjectFile) → AllByRecursion (SoundSubject file) type_subjects → SoundTypes file.segments
types_sound file all =
    record { interp = all.0; dynamic = all.1.0; phdr = all.1.1.0; tls = all.1.1.1.0; phdr_first = all.1.1.1.1.0 }

-- a fault of segments that is the first one
abbrev pub SegmentsTrue : ObjectFile → FileFault → Type 0
SegmentsTrue file fault = (own : SegmentsFault) × (fault ≡ Segments own) × IsTrueOfSegments file own

first_of_types : (file : ObjectFile) (fault : FileFault) → FirstIn file type_subjects fault → SegmentsTrue file fault
first_of_types file fault (inl t) = (SecondInterp t.0 t.1, t.2, t.3)
first_of_types file fault (inr (interp, inl t)) = (SecondDynamic t.0 t.1, t.2, (interp, t.3))
first_of_types file fault (inr (interp, inr (dynamic, inl t))) = (SecondPhdr t.0 t.1, t.2, (interp, dynamic, t.3))
first_of_types file fault (inr (interp, inr (dynamic, inr (phdr, inl t)))) =
    (SecondTls t.0 t.1, t.2, (interp, dynamic, phdr, t.3))
first_of_types file fault (inr (interp, inr (dynamic, inr (phdr, inr (tls, inl t))))) =
    (PhdrAfterLoad t.0 t.1, t.2, (interp, dynamic, phdr, tls, t.3))
first_of_types file fault (inr (interp, inr (dynamic, inr (phdr, inr (tls, inr none))))) = absurd none.1

pub segments_of : (file : ObjectFile) → AllByRecursion (SoundSubject file) (segment_subjects file) → SoundSegments file
segments_of file all =
    let P : Subject → Type 0 = SoundSubject file in
    let m = length file.segments in
    let front = all_left P (type_subjects ++ below SegmentAt m) (LoadOrder ∷ []) all in
    record {
      types = types_sound file (all_left P type_subjects (below SegmentAt m) front);
      each = λ i p less. segments_sound file m (all_below P SegmentAt m (all_right P type_subjects (below SegmentAt m) front)) i p less;
      loads = (all_right P (type_subjects ++ below SegmentAt m) (LoadOrder ∷ []) all).0;
    }

pub first_of_segments : (file : ObjectFile) (fault : FileFault) → FirstIn file (segment_subjects file) fault → SegmentsTrue file fault
first_of_segments file fault first =
    let P : Subject → Type 0 = SoundSubject file in
    let m = length file.segments in
    let C = SegmentsTrue file fault in
    either file fault {C = C} (type_subjects ++ below SegmentAt m) (LoadOrder ∷ []) first
    (λ front. either file fault {C = C} type_subjects (below SegmentAt m) front (first_of_types file fault)
    (λ all r. let b = first_below file fault SegmentAt m r in let t = b.2 in (
      OfSegment b.0 t.0 t.1,
      t.2,
      (types_sound file all, record { here = t.3; before = λ k p less e. segments_sound file b.0 b.3 k p less e }),
    )))
    (λ all r. let t = only file fault LoadOrder r in (
      OverlappingLoad t.0 t.1,
      t.2,
      (
        types_sound file (all_left P type_subjects (below SegmentAt m) all),
        (
          λ i p less. segments_sound file m (all_below P SegmentAt m (all_right P type_subjects (below SegmentAt m) all)) i p less,
          t.3,
        ),
      ),
    ))

-- ---- the file

abbrev first_subjects : List Subject
first_subjects = (SectionNames ∷ []) ++ map SingleType single_types

module _ (file : ObjectFile) (listed : (i : ℕ) → slice_get file.sections i ≡ result_ok (file.section_at i)) where
  sections_of : AllByRecursion (SoundSubject file) (section_subjects file) → IsOk (name_table file) × (repeated_type file ≡ None) × AllSound file.section_at (SoundSection file)
  sections_of all =
      let P : Subject → Type 0 = SoundSubject file in
      let n = length file.sections in
      let first = all_left P first_subjects (below SectionAt n) all in (
        first.0,
        none_repeated file.sections single_types first.1,
        λ i s e. sections_sound file n first.0 (all_below P SectionAt n (all_right P first_subjects (below SectionAt n) all)) i s
            (slice_get_within file.sections i s (listed i ∙ ap result_ok e)) e,
      )

  versions_of : AllByRecursion (SoundSubject file) version_subjects → SoundVersions file
  versions_of all =
      let chosen = version_sections file.sections in
      versions_from file chosen chosen.indexes all.0 all.1.0 all.1.1.0

  pub file_of : AllByRecursion (SoundSubject file) (subjects file) → SoundFile file
  file_of all =
      let P : Subject → Type 0 = SoundSubject file in
      let front = all_left P (section_subjects file ++ version_subjects) (segment_subjects file) all in
      let s = sections_of (all_left P (section_subjects file) version_subjects front) in
      record {
        names = s.0;
        single = s.1;
        sections = s.2;
        versions = versions_of (all_right P (section_subjects file) version_subjects front);
        segments = segments_of file (all_right P (section_subjects file ++ version_subjects) (segment_subjects file) all);
      }

  pub first_of_all : (fault : FileFault) → FirstIn file (subjects file) fault → IsTrueOfFile file fault
  first_of_all fault first =
      let P : Subject → Type 0 = SoundSubject file in
      let n = length file.sections in
      let C = IsTrueOfFile file fault in
      either file fault {C = C} (section_subjects file ++ version_subjects) (segment_subjects file) first
      (λ front. either file fault {C = C} (section_subjects file) version_subjects front
      (λ r. either file fault {C = C} first_subjects (below SectionAt n) r (first_of_names file fault)
      (λ all q. let b = first_below file fault SectionAt n q in let t = b.2 in
      subst (IsTrueOfFile file) (sym t.1) (section_true file b.0 t.0 all.0 (none_repeated file.sections single_types all.1) t.2 b.3)))
      (λ all r. let s = sections_of all in let t = first_of_versions file fault r in
      subst (IsTrueOfFile file) (sym t.1) (s.0, s.1, s.2, t.2)))
      (λ all r. let s = sections_of (all_left P (section_subjects file) version_subjects all) in
      let versions = versions_of (all_right P (section_subjects file) version_subjects all) in
      let t = first_of_segments file fault r in
      subst (IsTrueOfFile file) (sym t.1) (s.0, s.1, s.2, versions, t.2))

  pub starts : (faults : List FileFault) → AreFaults file (subjects file) faults → StartsAsChecked file faults
  starts [] are = tt
  starts (fault ∷ faults) are = first_of_all fault (first_in file fault (subjects file) faults are)

pub of_segments : (file : ObjectFile) → SoundSegments file → AllByRecursion (SoundSubject file) (segment_subjects file)
of_segments file sound =
    let P : Subject → Type 0 = SoundSubject file in
    let m = length file.segments in
    let types = sound.types in
    let each = below_all P SegmentAt m (λ i less. some_each (SoundSegment file) (slice_get file.segments i) (λ p e. sound.each i p less e)) in
    let of_types : AllByRecursion P type_subjects = (types.interp, (types.dynamic, (types.phdr, (types.tls, (types.phdr_first, tt))))) in
    all_both P (type_subjects ++ below SegmentAt m) (LoadOrder ∷ []) (all_both P type_subjects (below SegmentAt m) of_types each) (sound.loads, tt)

pub of_file : (file : ObjectFile) → SoundFile file → AllByRecursion (SoundSubject file) (subjects file)
of_file file sound =
    let P : Subject → Type 0 = SoundSubject file in
    let n = length file.sections in
    let chosen = version_sections file.sections in
    let each_section = below_all P SectionAt n (λ i less. ok_each (SoundByItself file) (file.section_at i)
    (λ s e. (by_names (SoundUnnamed file s) (SoundSection file s) (name_table file) sound.names).1 (sound.sections i s e))) in
    let of_versions : AllByRecursion P version_subjects = (
      needs_of file chosen chosen.indexes sound.versions,
      (
        definitions_of file chosen chosen.indexes sound.versions,
        (indexes_of file chosen chosen.indexes sound.versions, tt),
      ),
    ) in
    all_both P (section_subjects file ++ version_subjects) (segment_subjects file)
    (all_both P (section_subjects file) version_subjects
    (all_both P ((SectionNames ∷ []) ++ map SingleType single_types) (below SectionAt n) (sound.names, each_single file.sections single_types sound.single) each_section) of_versions)
    (of_segments file sound.segments)

-- ---- no faults

all_of_none : (file : ObjectFile) (xs : List Subject) → AreFaults file xs [] → AllByRecursion (SoundSubject file) xs
all_of_none file [] none = tt
all_of_none file (x ∷ xs) none = (none.0, all_of_none file xs none.1)

-- where a walk begins, if there is none
pub none_next : (file : ObjectFile) (before after : Checking) (all : List Subject) → before ≡ unchecked file all → IsNextFault before after None → AllByRecursion (SoundSubject file) all
none_next file before after all new next =
    let f = (subst (λ (b : Checking). IsNextFault b after None) new next).2 in
    all_of_none file all (subst (λ (xs : List Subject). AreFaults file xs []) (sym f.1) f.2)

pub none_if_sound : (file : ObjectFile) (faults : List FileFault) → ((i : ℕ) → slice_get file.sections i ≡ result_ok (file.section_at i)) → AreFaults file (subjects file) faults → (faults ≡ []) ↔ SoundFile file
none_if_sound file [] listed are = (λ none. file_of file listed (all_of_none file (subjects file) are), λ sound. refl)
none_if_sound file (fault ∷ faults) listed are = (
  λ some. absurd (cc some),
  λ sound. absurd (not_sound file fault (subjects file) (first_in file fault (subjects file) faults are) (of_file file sound)),
)
