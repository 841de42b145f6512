-- A file has one list of all faults.
use Rattle.std.proofs.Common.{◌≡◌, ℕ, List, [], ◌∷◌, Option, MatchOption, Some, None, refl, ap, sym, ◌∙◌, inl, inr}
use Rattle.std.specs.Option.{IsSomeAnd}
use Rattle.std.specs.Result.{result_ok}
use Rattle.elf_records.specs.declared.section.SectionHeader.{SectionHeader}
use Rattle.elf_hash_check.specs.Object.{IsFirstOfObject, Object}
use Rattle.elf_hash_check.specs.declared.hashcheck.HashFault.{HashFault}
use Rattle.elf_reading.specs.Versions.{version_sections}
use Rattle.elf.specs.Names.{name_table}
use Rattle.elf.specs.ObjectFile.{ObjectFile}
use Rattle.elf_check.specs.AllFaults.{AreFaults, Definitions, Indexes, IsFaultOfSubject, IsTrueByItself, LoadOrder}
use Rattle.elf_check.specs.AllFaults.{Needs, SectionAt, SectionNames, SegmentAt, SingleType, Subject, Types}
use Rattle.elf_check.specs.Sections.{IsTrueOfSection, IsTrueOfUnnamed}
use Rattle.elf_check.specs.SegmentsFaults.{IsFirstOverlap, IsFirstPair}
use Rattle.elf_check.specs.TypeRules.{fault_of, types_of}
use Rattle.elf_check.specs.versions.InFile.{IsTrueOfIndexSection}
use Rattle.elf_check.specs.declared.faults.FileFault.{FileFault}
use Rattle.elf_check.specs.declared.faults.FileFault.TheVariants.{Section, Segments, Versions}
use Rattle.elf_check.specs.declared.faults.VersionsFault.{VersionsFault}
use Rattle.elf_check.specs.declared.segments.faults.SegmentsFault.{SegmentsFault}
use Rattle.elf_check.specs.declared.segments.faults.SegmentsFault.TheVariants.{OverlappingLoad}
use Rattle.elf_laws.proofs.Once.{IsOnce, both, both_some, one_made}
use Rattle.elf_laws.proofs.OneOfSection.{one_section_fault, one_unnamed_fault}
use Rattle.elf_laws.proofs.OneOfSegments.{one_here, one_of_pair, one_overlap, one_pair}
use Rattle.elf_laws.proofs.OneOfVersions.{InDefs, InNeeds, one_in_defs, one_in_needs, one_section_of_indexes}

-- of two kinds of faults, as there is a value or none
one_if_any : {A : Type 0} {F : Type 0} (Without With : F → Type 0) → IsOnce Without → IsOnce With → (o : Option A) → IsOnce (λ fault. MatchOption o (Without fault) (λ x. With fault))
one_if_any Without With without with (Some x) one other p q = with one other p q
one_if_any Without With without with None one other p q = without one other p q

module _ (file : ObjectFile) (one_first : (object : Object) (one other : HashFault) → IsFirstOfObject object one → IsFirstOfObject object other → one ≡ other) where
  one_by_itself : (s : SectionHeader) → IsOnce (IsTrueByItself file s)
  one_by_itself s =
      one_if_any (IsTrueOfUnnamed file s) (IsTrueOfSection file s) (one_unnamed_fault file s one_first) (one_section_fault file s one_first) (result_ok (name_table file))

  one_at : (i : ℕ) → IsOnce (IsFaultOfSubject file (SectionAt i))
  one_at i one other (own, d, x) (theirs, e, y) =
      d ∙ ap (Section i) (both (λ s. IsTrueByItself file s own) (λ s. IsTrueByItself file s theirs) (own ≡ theirs) (file.section_at i) x y (λ s is p q. one_by_itself s own theirs p q)) ∙ sym e

  -- ---- versions

  OfVersions : (SectionHeader → VersionsFault → Type 0) → VersionsFault → Type 0
  OfVersions IsTrue own = let chosen = version_sections file.sections in IsSomeAnd chosen.indexes (λ s. IsTrue s own)

  one_of_versions : (IsTrue : SectionHeader → VersionsFault → Type 0) → ((s : SectionHeader) → IsOnce (IsTrue s)) → IsOnce (OfVersions IsTrue)
  unfolding OfVersions
  one_of_versions IsTrue once one other x y =
      let chosen = version_sections file.sections in
      both_some (λ s. IsTrue s one) (λ s. IsTrue s other) (one ≡ other) chosen.indexes x y (λ s p q. once s one other p q)

  -- ---- each subject

  one_couple : (make : ℕ → ℕ → SegmentsFault) (earlier later : ℕ) (one other : FileFault) (x : (i : ℕ) × (j : ℕ) × (one ≡ Segments (make i j)) × IsFirstPair earlier later file.segments i j) (y : (i : ℕ) × (j : ℕ) × (other ≡ Segments (make i j)) × IsFirstPair earlier later file.segments i j) → one ≡ other
  one_couple make earlier later one other x y =
      one_of_pair (λ i j. Segments (make i j)) (IsFirstPair earlier later file.segments) (one_pair file.segments earlier later) one other x y

  one_subject : (subject : Subject) → IsOnce (IsFaultOfSubject file subject)
  unfolding OfVersions
  one_subject SectionNames one other x y = x.0 ∙ sym y.0
  one_subject (SingleType t) one other x y = x.0 ∙ sym y.0
  one_subject (SectionAt i) one other x y = one_at i one other x y
  one_subject Needs one other x y =
      let chosen = version_sections file.sections in
      one_made Versions (OfVersions (λ s own. InNeeds file chosen s own)) (one_of_versions (λ s own. InNeeds file chosen s own) (λ s. one_in_needs file chosen s)) one other x y
  one_subject Definitions one other x y =
      let chosen = version_sections file.sections in
      one_made Versions (OfVersions (λ s own. InDefs file chosen s own)) (one_of_versions (λ s own. InDefs file chosen s own) (λ s. one_in_defs file chosen s)) one other x y
  one_subject Indexes one other x y =
      let chosen = version_sections file.sections in
      one_made Versions (OfVersions (λ s own. IsTrueOfIndexSection file chosen s own)) (one_of_versions (λ s own. IsTrueOfIndexSection file chosen s own) (λ s. one_section_of_indexes file chosen s)) one other x y
  one_subject (Types rule) one other x y =
      let types = types_of rule in one_couple (fault_of rule) types.0 types.1 one other x y
  one_subject (SegmentAt i) one other (t, f, d, x) (u, g, e, y) = d ∙ ap Segments (one_here file i t u f g x y) ∙ sym e
  one_subject LoadOrder one other x y =
      one_of_pair (λ i j. Segments (OverlappingLoad i j)) (IsFirstOverlap file.segments) (one_overlap file.segments) one other x y

  -- ---- the list

  pub one_list : (subjects : List Subject) → IsOnce (AreFaults file subjects)
  one_list [] [] [] x y = refl
  one_list [] [] (g ∷ gs) x y = absurd y
  one_list [] (f ∷ fs) gs x y = absurd x
  one_list (subject ∷ after) [] [] x y = refl
  one_list (subject ∷ after) [] (g ∷ gs) x (inl y) = one_list after [] (g ∷ gs) x.1 y.1
  one_list (subject ∷ after) [] (g ∷ gs) x (inr y) = absurd (y.0 x.0)
  one_list (subject ∷ after) (f ∷ fs) [] (inl x) y = one_list after (f ∷ fs) [] x.1 y.1
  one_list (subject ∷ after) (f ∷ fs) [] (inr x) y = absurd (x.0 y.0)
  one_list (subject ∷ after) (f ∷ fs) (g ∷ gs) (inl x) (inl y) = one_list after (f ∷ fs) (g ∷ gs) x.1 y.1
  one_list (subject ∷ after) (f ∷ fs) (g ∷ gs) (inl x) (inr y) = absurd (y.0 x.0)
  one_list (subject ∷ after) (f ∷ fs) (g ∷ gs) (inr x) (inl y) = absurd (x.0 y.0)
  one_list (subject ∷ after) (f ∷ fs) (g ∷ gs) (inr x) (inr y) =
      ap (λ h. h ∷ fs) (one_subject subject f g x.1 y.1) ∙ ap (λ hs. g ∷ hs) (one_list after fs gs x.2 y.2)
