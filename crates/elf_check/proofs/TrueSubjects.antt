-- A fault of a subject means that the subject is not sound.
use Rattle.std.proofs.Common.{◌≡◌, Option, Some, None, Result, Ok, Err}
use Rattle.std.specs.List.{slice_get}
use Rattle.std.specs.Option.{IfSome, IsSomeAnd, MatchOption}
use Rattle.std.specs.Result.{IfOk, IsOkAnd, result_ok}
use Rattle.elf_records.specs.declared.section.SectionHeader.{SectionHeader}
use Rattle.elf_reading.specs.Versions.{version_sections}
use Rattle.elf.specs.Data.{section_data}
use Rattle.elf.specs.Names.{name_table}
use Rattle.elf.specs.ObjectFile.{ObjectFile}
use Rattle.elf_check.specs.AllFaults.{Definitions, Indexes, IsFaultOfSubject, IsTrueByItself, LoadOrder, Needs}
use Rattle.elf_check.specs.AllFaults.{SectionAt, SectionNames, SegmentAt, SingleType, SoundByItself, SoundSubject}
use Rattle.elf_check.specs.AllFaults.{Subject, Types}
use Rattle.elf_check.specs.Sections.{IsTrueOfSection, IsTrueOfUnnamed, SoundSection, SoundUnnamed, is_repeated}
use Rattle.elf_check.specs.Segments.{SoundSegment}
use Rattle.elf_check.specs.SegmentsFaults.{IsTrueOfSegment}
use Rattle.elf_check.specs.TypeRules.{types_of}
use Rattle.elf_check.specs.versions.InFile.{IsTrueOfDefs, IsTrueOfIndexSection, IsTrueOfNeeds, SoundDefsOf}
use Rattle.elf_check.specs.versions.InFile.{SoundIndexSection, SoundNeedsOf}
use Rattle.elf_check.specs.declared.faults.FileFault.{FileFault}
use Rattle.elf_check.specs.declared.faults.SectionFault.{SectionFault}
use Rattle.elf_check.specs.declared.faults.SectionFault.TheVariants.{Compressed, NoBytes, NoName}
use Rattle.elf_check.proofs.SegmentsVerdicts.{not_both, true_overlap, true_pair, true_segment}
use Rattle.elf_check.proofs.Verdicts.{ok_not_err, true_content, true_section}
use Rattle.elf_check.proofs.VersionFaults.{both_some, true_defs, true_index_section, true_needs}

-- ---- a section

true_unnamed : (file : ObjectFile) (s : SectionHeader) (fault : SectionFault) → IsTrueOfUnnamed file s fault → SoundUnnamed file s → ⊥
true_unnamed file s NoName t sound = t
true_unnamed file s NoBytes t sound = ok_not_err (section_data file s) sound.bytes t
true_unnamed file s Compressed t sound = t.1 sound.plain
true_unnamed file s fault t sound = true_content file s fault t.2 sound.content

by_names : {N : Type 0} (file : ObjectFile) (s : SectionHeader) (fault : SectionFault) (names : Option N) → MatchOption names (IsTrueOfUnnamed file s fault) (λ n. IsTrueOfSection file s fault) → MatchOption names (SoundUnnamed file s) (λ n. SoundSection file s) → ⊥
by_names file s fault None t sound = true_unnamed file s fault t sound
by_names file s fault (Some n) t sound = true_section file s fault t sound

true_by_itself : (file : ObjectFile) (s : SectionHeader) (fault : SectionFault) → IsTrueByItself file s fault → SoundByItself file s → ⊥
true_by_itself file s fault t sound = by_names file s fault (result_ok (name_table file)) t sound

true_at : {A E : Type 0} (P Q : A → Type 0) (r : Result A E) → IsOkAnd r P → IfOk r Q → ((x : A) → P x → Q x → ⊥) → ⊥
true_at P Q (Ok x) p q none = none x p q
true_at P Q (Err e) p q none = p

-- ---- a subject

pub true_subject : (file : ObjectFile) (x : Subject) (fault : FileFault) → IsFaultOfSubject file x fault → SoundSubject file x → ⊥
true_subject file SectionNames fault t sound = ok_not_err (name_table file) sound t.1
true_subject file (SingleType n) fault t sound = not_both (is_repeated file.sections n) t.1 sound
true_subject file (SectionAt i) fault t sound =
    true_at (λ s. IsTrueByItself file s t.0) (SoundByItself file) (file.section_at i) t.2 sound (λ s. true_by_itself file s t.0)
true_subject file Needs fault t sound =
    let chosen = version_sections file.sections in
    both_some (λ s. IfSome chosen.needs (SoundNeedsOf file)) (λ s. IsSomeAnd chosen.needs (λ n. IsTrueOfNeeds file n t.0)) chosen.indexes sound t.2
    (λ s is not. both_some (SoundNeedsOf file) (λ n. IsTrueOfNeeds file n t.0) chosen.needs is not (λ n. true_needs file n t.0))
true_subject file Definitions fault t sound =
    let chosen = version_sections file.sections in
    both_some (λ s. IfSome chosen.definitions (SoundDefsOf file)) (λ s. IsSomeAnd chosen.definitions (λ d. IsTrueOfDefs file d t.0)) chosen.indexes sound t.2
    (λ s is not. both_some (SoundDefsOf file) (λ d. IsTrueOfDefs file d t.0) chosen.definitions is not (λ d. true_defs file d t.0))
true_subject file Indexes fault t sound =
    let chosen = version_sections file.sections in
    both_some (SoundIndexSection file chosen) (λ s. IsTrueOfIndexSection file chosen s t.0) chosen.indexes sound t.2
    (λ s. true_index_section file chosen s t.0)
true_subject file (Types rule) fault t sound =
    let types = types_of rule in true_pair types.0 types.1 file.segments t.0 t.1 t.3 sound
true_subject file (SegmentAt i) fault t sound =
    both_some (SoundSegment file) (λ p. (p.p_type ≡ t.0) × IsTrueOfSegment file p t.1) (slice_get file.segments i) sound t.3
    (λ p is not. true_segment file p t.1 not.1 is)
true_subject file LoadOrder fault t sound = true_overlap file.segments t.0 t.1 t.3 sound
