-- That a fault which is true of a file means that its segments are not sound.
use Rattle.std.proofs.Common.{◌≡◌, ◌⊎◌, ℕ, ◌<◌, Bool, true, false, List, Option, Some, None, refl, inl, inr, arith}
use Rattle.std.proofs.lemmas.Option.{slice_get_within}
use Rattle.std.specs.List.{slice_get}
use Rattle.std.specs.Option.{IfSome, IsSomeAnd}
use Rattle.elf_abi.specs.Values.{pt_load, pt_tls, sht_dynamic}
use Rattle.elf_records.specs.declared.segment.ProgramHeader.{ProgramHeader}
use Rattle.elf.specs.Headers.{first_section_of}
use Rattle.elf.specs.ObjectFile.{ObjectFile}
use Rattle.elf_check.specs.Notes.{IsNoNote, NotesFill}
use Rattle.elf_check.specs.Segments.{EndsWithNul, IsRangeOf, LoadsRise, NoneFollows, SoundDynamicSegment, SoundSegment}
use Rattle.elf_check.specs.Segments.{has_null, memory_end, segment_bytes}
use Rattle.elf_check.specs.SegmentsFaults.{IsFirstOverlap, IsFirstPair, IsTrueOfDynamic, IsTrueOfSegment}
use Rattle.elf_check.specs.declared.segments.faults.SegmentFault.{SegmentFault}
use Rattle.elf_check.specs.declared.segments.faults.SegmentFault.TheVariants.{EntriesWithoutEnd, FileSize, NoBytes}
use Rattle.elf_check.specs.declared.segments.faults.SegmentFault.TheVariants.{NoLastNul, NoNote, OtherSection}
use Rattle.elf_check.specs.declared.segments.faults.SegmentFault.TheVariants.{PartOfEntry, PastAddresses}
use Rattle.elf_check.proofs.Verdicts.{ok_not_err}
use Rattle.elf_check.proofs.VersionFaults.{both_and}

-- ---- results and options

value_and : {A : Type 0} (P : A → Type 0) (o : Option A) → IsSomeAnd o P → ((x : A) → o ≡ Some x → P x → ⊥) → ⊥
value_and P (Some x) p none = none x refl p
value_and P None p none = p

if_and : {A : Type 0} (P : A → Type 0) (o : Option A) → IfSome o P → IsSomeAnd o (λ x. ¬ P x) → ⊥
if_and P (Some x) p not = not p
if_and P None p not = not

pub not_both : (b : Bool) → b ≡ true → b ≡ false → ⊥
not_both b t f = cc

-- ---- a segment

true_dynamic : (file : ObjectFile) (p : ProgramHeader) (fault : SegmentFault) → IsTrueOfDynamic file p fault → SoundDynamicSegment file p → ⊥
true_dynamic file p PartOfEntry t sound = t sound.whole
true_dynamic file p EntriesWithoutEnd t sound =
    both_and (λ bytes. has_null file bytes ≡ true) (λ bytes. has_null file bytes ≡ false) (segment_bytes file p) (sound.ended t.1) t.2 (λ bytes yes no. not_both (has_null file bytes) yes no)
true_dynamic file p OtherSection t sound =
    if_and (λ s. IsRangeOf s p) (first_section_of sht_dynamic file.sections) (sound.same t.1) t.3
true_dynamic file p fault t sound = t

large_load : (file : ObjectFile) (p : ProgramHeader) → SoundSegment file p → (p.p_type ≡ pt_load) ⊎ (p.p_type ≡ pt_tls) → p.p_memsz < p.p_filesz → ⊥
large_load file p sound (inl load) more = let fits = (sound.load load).0 in absurd (omega (arith, fits, more))
large_load file p sound (inr tls) more = let fits = sound.tls tls in absurd (omega (arith, fits, more))

pub true_segment : (file : ObjectFile) (p : ProgramHeader) (fault : SegmentFault) → IsTrueOfSegment file p fault → SoundSegment file p → ⊥
true_segment file p NoBytes t sound = ok_not_err (segment_bytes file p) sound.bytes t
true_segment file p FileSize t sound = large_load file p sound t.1 t.2
true_segment file p PastAddresses t sound =
    let most = (sound.load t.1).1 in let more = t.3 in absurd (omega (arith, most, more))
true_segment file p NoLastNul t sound =
    both_and EndsWithNul (λ bytes. ¬ EndsWithNul bytes) (segment_bytes file p) (sound.path t.0 t.1) t.2 (λ bytes ends not. not ends)
true_segment file p (NoNote offset) t sound =
    both_and (NotesFill file.little p.p_align) (λ bytes. IsNoNote file.little p.p_align bytes offset) (segment_bytes file p) (sound.notes t.0 t.1) t.2
    (λ bytes fill none. omega (arith, fill, none.here, none.before))
true_segment file p PartOfEntry t sound = true_dynamic file p PartOfEntry t.2 (sound.entries t.1)
true_segment file p EntriesWithoutEnd t sound = true_dynamic file p EntriesWithoutEnd t.1 (sound.entries t.0)
true_segment file p OtherSection t sound = true_dynamic file p OtherSection t.1 (sound.entries t.0)

-- ---- the segments of a file

pub true_pair : (earlier later : ℕ) (segments : List ProgramHeader) (first index : ℕ) → IsFirstPair earlier later segments first index → NoneFollows earlier later segments → ⊥
true_pair earlier later segments first index pair none =
    value_and (λ p. p.p_type ≡ earlier) (slice_get segments first) pair.earlier_one.here (λ p e t.
    value_and (λ q. q.p_type ≡ later) (slice_get segments index) pair.later_one.here (λ q d u.
    none first index p q (let from = pair.later_one.from in omega (arith, from)) e d t u))

pub true_overlap : (segments : List ProgramHeader) (first index : ℕ) → IsFirstOverlap segments first index → LoadsRise segments → ⊥
true_overlap segments first index overlap rise =
    value_and (λ p. (p.p_type ≡ pt_load) × IsSomeAnd (slice_get segments index) (λ q. (q.p_type ≡ pt_load) × (q.p_vaddr < memory_end p))) (slice_get segments first) overlap.here (λ p e t.
    value_and (λ q. (q.p_type ≡ pt_load) × (q.p_vaddr < memory_end p)) (slice_get segments index) t.1 (λ q d u.
    let least = rise first index p q overlap.earlier (slice_get_within segments index q d) e d t.0 u.0 in
    let less = u.1 in absurd (omega (arith, least, less))))
