-- A file has one fault at most.
use Rattle.std.proofs.Common.{◌≡◌, ℕ, Some, None, refl, ap, sym, ◌∙◌, inl, inr}
use Rattle.std.specs.Result.{IsOk}
use Rattle.elf_hash_check.specs.Object.{IsFirstOfObject, Object}
use Rattle.elf_hash_check.specs.declared.hashcheck.HashFault.{HashFault}
use Rattle.elf.specs.Names.{name_table}
use Rattle.elf.specs.ObjectFile.{ObjectFile}
use Rattle.elf_check.specs.Faults.{IsTrueOfFile}
use Rattle.elf_check.specs.Members.{AllSound, IsFirstFault}
use Rattle.elf_check.specs.Sections.{IsTrueOfSection, SoundSection, repeated_type}
use Rattle.elf_check.specs.SegmentsFaults.{IsTrueOfSegments}
use Rattle.elf_check.specs.versions.InFile.{IsTrueOfVersions, SoundVersions}
use Rattle.elf_check.specs.declared.faults.FileFault.{FileFault}
use Rattle.elf_check.specs.declared.faults.FileFault.TheVariants.{NoNames, Repeated, Section, Segments, Versions}
use Rattle.elf_check.specs.declared.faults.SectionFault.{SectionFault}
use Rattle.elf_check.proofs.VersionFaults.{true_versions}
use Rattle.elf_check.proofs.Verdicts.{true_section}
use Rattle.elf_laws.proofs.Once.{ByStage, IsKnown, IsMadeOf, IsOnce, both, not_err, one_by_stage, one_known}
use Rattle.elf_laws.proofs.Once.{one_made, one_member}
use Rattle.elf_laws.proofs.OneOfSection.{one_section_fault}
use Rattle.elf_laws.proofs.OneOfSegments.{one_segments_fault}
use Rattle.elf_laws.proofs.OneOfVersions.{one_versions_fault}

module _ (file : ObjectFile) (one_first : (object : Object) (one other : HashFault) → IsFirstOfObject object one → IsFirstOfObject object other → one ≡ other) where
  abbrev IsRepeated : ℕ → Type 0
  IsRepeated t = repeated_type file ≡ Some t

  one_repeated : IsOnce IsRepeated
  one_repeated t u x y = cc (x, y)

  abbrev IsFirst : ℕ → SectionFault → Type 0
  IsFirst i own = IsFirstFault file.section_at (SoundSection file) (IsTrueOfSection file) i own

  abbrev AtSection : FileFault → Type 0
  AtSection fault = (i : ℕ) × (own : SectionFault) × (fault ≡ Section i own) × IsFirst i own

  one_at_section : IsOnce AtSection
  one_at_section one other (i, f, d, x) (j, g, e, y) =
      let same = one_member file.section_at (SoundSection file) (IsTrueOfSection file) (λ s fault t sound. true_section file s fault t sound) (λ s. one_section_fault file s one_first) i j f g x y in
      d ∙ ap (λ n. Section n f) same.0 ∙ ap (Section j) same.1 ∙ sym e

  not_sound : (i : ℕ) (own : SectionFault) → IsFirst i own → AllSound file.section_at (SoundSection file) → ⊥
  not_sound i own x all =
      both (λ s. IsTrueOfSection file s own) (λ s. IsTrueOfSection file s own) ⊥ (file.section_at i) x.true x.true (λ s e t u. true_section file s own t (all i s e))

  abbrev ByVersions : FileFault → Type 0
  ByVersions = ByStage (SoundVersions file) (IsMadeOf Versions (IsTrueOfVersions file)) (IsMadeOf Segments (IsTrueOfSegments file))

  abbrev BySections : FileFault → Type 0
  BySections = ByStage (AllSound file.section_at (SoundSection file)) AtSection ByVersions

  abbrev ByTypes : FileFault → Type 0
  ByTypes = ByStage (repeated_type file ≡ None) (IsMadeOf Repeated IsRepeated) BySections

  by_names : (fault : FileFault) → IsTrueOfFile file fault → ByStage (IsOk (name_table file)) (IsKnown NoNames) ByTypes fault
  by_names NoNames t = inl (λ ok. not_err (name_table file) ok t, refl)
  by_names (Repeated sh_type) t = let some = t.1 in inr (t.0, inl (λ none. cc (none, some), (sh_type, refl, some)))
  by_names (Section i own) t = inr (t.0, inr (t.1, inl (not_sound i own t.2, (i, own, refl, t.2))))
  by_names (Versions own) t = inr (t.0, inr (t.1, inr (t.2, inl (true_versions file own t.3, (own, refl, t.3)))))
  by_names (Segments own) t = inr (t.0, inr (t.1, inr (t.2, inr (t.3, (own, refl, t.4)))))

  pub one_file_fault : IsOnce (IsTrueOfFile file)
  one_file_fault one other x y =
      let versions = one_by_stage (SoundVersions file) (IsMadeOf Versions (IsTrueOfVersions file)) (IsMadeOf Segments (IsTrueOfSegments file)) (one_made Versions (IsTrueOfVersions file) (one_versions_fault file)) (one_made Segments (IsTrueOfSegments file) (one_segments_fault file)) in
      let sections = one_by_stage (AllSound file.section_at (SoundSection file)) AtSection ByVersions one_at_section versions in
      let types = one_by_stage (repeated_type file ≡ None) (IsMadeOf Repeated IsRepeated) BySections (one_made Repeated IsRepeated one_repeated) sections in
      one_by_stage (IsOk (name_table file)) (IsKnown NoNames) ByTypes (one_known NoNames) types one other (by_names one x) (by_names other y)
