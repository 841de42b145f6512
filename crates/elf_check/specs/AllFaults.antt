-- All faults of a file. It is checked subject by subject, in the order of `subjects`. A subject is sound, or has one
-- fault, which is the first one in the order in which the subject is checked.
use Rattle.std.specs.Prelude.{◌≡◌, ◌⊎◌, ◌↔◌, ◌++◌, ⊤, ℕ, zero, suc, false, true, List, [], ◌∷◌, length, map, slice_get}
use Rattle.std.specs.Prelude.{MatchOption, IsOk, IsErr, IfOk, IfSome}
use Rattle.std.specs.Option.{IsSomeAnd}
use Rattle.std.specs.Result.{IsOkAnd, result_ok}
use Rattle.elf_records.specs.declared.section.SectionHeader.{SectionHeader}
use Rattle.elf_reading.specs.Versions.{version_sections}
use Rattle.elf_reading.specs.declared.versions.VersionSections.{VersionSections}
use Rattle.elf.specs.Names.{name_table}
use Rattle.elf.specs.ObjectFile.{ObjectFile}
use Rattle.elf_check.specs.Faults.{IsTrueOfFile}
use Rattle.elf_check.specs.Sections.{IsTrueOfSection, IsTrueOfUnnamed, SoundSection, SoundUnnamed, is_repeated}
use Rattle.elf_check.specs.Sections.{single_types}
use Rattle.elf_check.specs.Segments.{LoadsRise, NoneFollows, SoundSegment}
use Rattle.elf_check.specs.SegmentsFaults.{IsFirstOverlap, IsFirstPair, IsTrueOfSegment}
use Rattle.elf_check.specs.Sound.{SoundFile}
use Rattle.elf_check.specs.TypeRules.{fault_of, types_of}
use Rattle.elf_check.specs.versions.InFile.{IsTrueOfDefs, IsTrueOfIndexSection, IsTrueOfNeeds, SoundDefsOf}
use Rattle.elf_check.specs.versions.InFile.{SoundIndexSection, SoundNeedsOf}
use Rattle.elf_check.specs.declared.faults.FileFault.{FileFault}
use Rattle.elf_check.specs.declared.faults.FileFault.TheVariants.{NoNames, Repeated, Section, Segments, Versions}
use Rattle.elf_check.specs.declared.faults.SectionFault.{SectionFault}
use Rattle.elf_check.specs.declared.faults.VersionsFault.{VersionsFault}
use Rattle.elf_check.specs.declared.segments.faults.SegmentFault.{SegmentFault}
use Rattle.elf_check.specs.declared.segments.faults.SegmentsFault.TheVariants.{OverlappingLoad, Segment as OfSegment}
use Rattle.elf_check.specs.declared.segments.faults_in.TypeRule.{TypeRule}
use Rattle.elf_check.specs.declared.segments.faults_in.TypeRule.TheVariants.{PhdrFirst, SingleDynamic, SingleInterp}
use Rattle.elf_check.specs.declared.segments.faults_in.TypeRule.TheVariants.{SinglePhdr, SingleTls}

-- ---- the subjects

pub data Subject : Type 0 where
  -- the names of the sections
  SectionNames : Subject
  -- the sections of a type that at most one section may have
  SingleType : ℕ → Subject
  -- the section of an index
  SectionAt : ℕ → Subject
  -- the sections of versions
  Needs : Subject
  Definitions : Subject
  Indexes : Subject
  -- the types of the segments, by a rule: PT_INTERP, PT_DYNAMIC, PT_PHDR and PT_TLS, of which there is one at most, and
  -- PT_PHDR, which is to come before the loaded segments
  Types : TypeRule → Subject
  -- the segment of an index
  SegmentAt : ℕ → Subject
  -- the order of the loaded segments
  LoadOrder : Subject

-- those of the indexes below a number, in order
abbrev pub below : (ℕ → Subject) → ℕ → List Subject
below subject zero = []
below subject (suc n) = below subject n ++ (subject n ∷ [])

abbrev pub section_subjects : ObjectFile → List Subject
section_subjects file =
    (SectionNames ∷ []) ++ map SingleType single_types ++ below SectionAt (length file.sections)

abbrev pub version_subjects : List Subject
version_subjects = Needs ∷ Definitions ∷ Indexes ∷ []

abbrev pub type_subjects : List Subject
type_subjects = map Types (SingleInterp ∷ SingleDynamic ∷ SinglePhdr ∷ SingleTls ∷ PhdrFirst ∷ [])

abbrev pub segment_subjects : ObjectFile → List Subject
segment_subjects file = type_subjects ++ below SegmentAt (length file.segments) ++ (LoadOrder ∷ [])

abbrev pub subjects : ObjectFile → List Subject
subjects file = section_subjects file ++ version_subjects ++ segment_subjects file

-- ---- when each is sound

-- a section: its name is not checked if the names of the sections cannot be read, which is a fault of the file
abbrev pub SoundByItself : ObjectFile → SectionHeader → Type 0
SoundByItself file s = MatchOption (result_ok (name_table file)) (SoundUnnamed file s) (λ names. SoundSection file s)

-- of the sections from which the versions are taken, if there are version indexes
abbrev pub IfVersions : ObjectFile → (VersionSections → SectionHeader → Type 0) → Type 0
IfVersions file P = let chosen = version_sections file.sections in IfSome chosen.indexes (P chosen)

abbrev pub SoundSubject : ObjectFile → Subject → Type 0
SoundSubject file SectionNames = IsOk (name_table file)
SoundSubject file (SingleType t) = is_repeated file.sections t ≡ false
SoundSubject file (SectionAt i) = IfOk (file.section_at i) (SoundByItself file)
SoundSubject file Needs = IfVersions file (λ chosen s. IfSome chosen.needs (SoundNeedsOf file))
SoundSubject file Definitions = IfVersions file (λ chosen s. IfSome chosen.definitions (SoundDefsOf file))
SoundSubject file Indexes = IfVersions file (SoundIndexSection file)
SoundSubject file (Types rule) = let types = types_of rule in NoneFollows types.0 types.1 file.segments
SoundSubject file (SegmentAt i) = IfSome (slice_get file.segments i) (SoundSegment file)
SoundSubject file LoadOrder = LoadsRise file.segments

-- ---- the fault of each

abbrev pub IsTrueByItself : ObjectFile → SectionHeader → SectionFault → Type 0
IsTrueByItself file s fault =
    MatchOption (result_ok (name_table file)) (IsTrueOfUnnamed file s fault) (λ names. IsTrueOfSection file s fault)

-- a fault of versions, which is one of these sections
abbrev pub IsVersionsFault : ObjectFile → (VersionSections → SectionHeader → VersionsFault → Type 0) → FileFault →
    Type 0
IsVersionsFault file IsTrue fault =
    let chosen = version_sections file.sections in
    (own : VersionsFault) × (fault ≡ Versions own) × IsSomeAnd chosen.indexes (λ s. IsTrue chosen s own)

abbrev pub IsFaultOfSubject : ObjectFile → Subject → FileFault → Type 0
IsFaultOfSubject file SectionNames fault = (fault ≡ NoNames) × IsErr (name_table file)
IsFaultOfSubject file (SingleType t) fault = (fault ≡ Repeated t) × (is_repeated file.sections t ≡ true)
IsFaultOfSubject file (SectionAt i) fault =
    (own : SectionFault) × (fault ≡ Section i own) × IsOkAnd (file.section_at i) (λ s. IsTrueByItself file s own)
IsFaultOfSubject file Needs fault =
    IsVersionsFault file (λ chosen s own. IsSomeAnd chosen.needs (λ n. IsTrueOfNeeds file n own)) fault
IsFaultOfSubject file Definitions fault =
    IsVersionsFault file (λ chosen s own. IsSomeAnd chosen.definitions (λ d. IsTrueOfDefs file d own)) fault
IsFaultOfSubject file Indexes fault = IsVersionsFault file (IsTrueOfIndexSection file) fault
IsFaultOfSubject file (Types rule) fault =
    let types = types_of rule in
    (first : ℕ) × (index : ℕ) × (fault ≡ Segments (fault_of rule first index))
    × IsFirstPair types.0 types.1 file.segments first index
IsFaultOfSubject file (SegmentAt i) fault =
    (p_type : ℕ) × (own : SegmentFault) × (fault ≡ Segments (OfSegment i p_type own))
    × IsSomeAnd (slice_get file.segments i) (λ p. (p.p_type ≡ p_type) × IsTrueOfSegment file p own)
IsFaultOfSubject file LoadOrder fault =
    (first : ℕ) × (index : ℕ) × (fault ≡ Segments (OverlappingLoad first index))
    × IsFirstOverlap file.segments first index

-- ---- the list

-- the faults of some subjects in their order: none of a subject that is sound, and one of each other
abbrev pub AreFaults : ObjectFile → List Subject → List FileFault → Type 0
AreFaults file [] [] = ⊤
AreFaults file [] (fault ∷ faults) = ⊥
AreFaults file (subject ∷ after) [] = SoundSubject file subject × AreFaults file after []
AreFaults file (subject ∷ after) (fault ∷ faults) =
    (SoundSubject file subject × AreFaults file after (fault ∷ faults))
    ⊎ ((¬ SoundSubject file subject) × IsFaultOfSubject file subject fault × AreFaults file after faults)

-- the first fault, if there is one, is true also by what is checked before it
abbrev pub StartsAsChecked : ObjectFile → List FileFault → Type 0
StartsAsChecked file [] = ⊤
StartsAsChecked file (fault ∷ faults) = IsTrueOfFile file fault

-- those of all subjects. So there is none exactly if the file is sound, and the first one is one that `check_file`
-- returns.
pub record AreAllFaults (file : ObjectFile) (faults : List FileFault) : Type 0 where
  pub each : AreFaults file (subjects file) faults
  pub sound : (faults ≡ []) ↔ SoundFile file
  pub first : StartsAsChecked file faults
