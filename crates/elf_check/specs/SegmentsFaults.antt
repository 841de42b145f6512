-- What each fault of a segment says of a file.
use Rattle.std.specs.Prelude.{◌≡◌, ◌≢◌, ◌⊎◌, ℕ, ◌+◌, ◌^◌, ◌<◌, ◌≤◌, true, false, List, slice_get, Some, IsOk, IsErr}
use Rattle.std.specs.Option.{IsSomeAnd}
use Rattle.std.specs.Result.{IsOkAnd}
use Rattle.elf_abi.specs.Values.{pt_dynamic, pt_interp, pt_load, pt_note, pt_phdr, pt_tls, sht_dynamic}
use Rattle.elf_records.specs.Class.{address_bits}
use Rattle.elf_records.specs.declared.segment.ProgramHeader.{ProgramHeader}
use Rattle.elf.specs.Headers.{first_section_of}
use Rattle.elf.specs.ObjectFile.{ObjectFile}
use Rattle.elf_check.specs.Notes.{IsNoNote}
use Rattle.elf_check.specs.Segments.{AtMostOne, EachSound, EndsWithNul, FitsMemory, IsRangeOf}
use Rattle.elf_check.specs.Segments.{IsWhole, LoadsRiseBelow, SoundBelow, SoundTypes, has_null, is_emptied}
use Rattle.elf_check.specs.Segments.{memory_end, segment_bytes}
use Rattle.elf_check.specs.declared.segments.faults.SegmentFault.{SegmentFault}
use Rattle.elf_check.specs.declared.segments.faults.SegmentFault.TheVariants.{EntriesWithoutEnd, FileSize}
use Rattle.elf_check.specs.declared.segments.faults.SegmentFault.TheVariants.{NoBytes, NoLastNul, NoNote}
use Rattle.elf_check.specs.declared.segments.faults.SegmentFault.TheVariants.{OtherSection, PartOfEntry}
use Rattle.elf_check.specs.declared.segments.faults.SegmentFault.TheVariants.{PastAddresses}
use Rattle.elf_check.specs.declared.segments.faults.SegmentsFault.{SegmentsFault}
use Rattle.elf_check.specs.declared.segments.faults.SegmentsFault.TheVariants.{OverlappingLoad}
use Rattle.elf_check.specs.declared.segments.faults.SegmentsFault.TheVariants.{PhdrAfterLoad, SecondDynamic}
use Rattle.elf_check.specs.declared.segments.faults.SegmentsFault.TheVariants.{SecondInterp, SecondPhdr}
use Rattle.elf_check.specs.declared.segments.faults.SegmentsFault.TheVariants.{SecondTls, Segment}

-- ---- a segment: a fault also says that the segment has none of the faults that are checked before it

-- the entries of a segment of type PT_DYNAMIC
abbrev pub IsTrueOfDynamic : ObjectFile → ProgramHeader → SegmentFault → Type 0
IsTrueOfDynamic file p PartOfEntry = ¬ IsWhole file.class p
IsTrueOfDynamic file p EntriesWithoutEnd =
    IsWhole file.class p × (is_emptied p ≡ false)
    × IsOkAnd (segment_bytes file p) (λ bytes. has_null file bytes ≡ false)
IsTrueOfDynamic file p OtherSection =
    IsWhole file.class p × (is_emptied p ≡ false)
    × IsOkAnd (segment_bytes file p) (λ bytes. has_null file bytes ≡ true)
    × IsSomeAnd (first_section_of sht_dynamic file.sections) (λ section. ¬ IsRangeOf section p)
IsTrueOfDynamic file p NoBytes = ⊥
IsTrueOfDynamic file p FileSize = ⊥
IsTrueOfDynamic file p PastAddresses = ⊥
IsTrueOfDynamic file p NoLastNul = ⊥
IsTrueOfDynamic file p (NoNote offset) = ⊥

abbrev pub IsTrueOfSegment : ObjectFile → ProgramHeader → SegmentFault → Type 0
IsTrueOfSegment file p NoBytes = IsErr (segment_bytes file p)
IsTrueOfSegment file p FileSize =
    IsOk (segment_bytes file p) × ((p.p_type ≡ pt_load) ⊎ (p.p_type ≡ pt_tls)) × (p.p_memsz < p.p_filesz)
IsTrueOfSegment file p PastAddresses =
    IsOk (segment_bytes file p) × (p.p_type ≡ pt_load) × FitsMemory p × (2 ^ address_bits file.class < memory_end p)
IsTrueOfSegment file p NoLastNul =
    (p.p_type ≡ pt_interp) × (is_emptied p ≡ false) × IsOkAnd (segment_bytes file p) (λ bytes. ¬ EndsWithNul bytes)
IsTrueOfSegment file p (NoNote offset) =
    (p.p_type ≡ pt_note) × (2 ≤ p.p_align)
    × IsOkAnd (segment_bytes file p) (λ bytes. IsNoNote file.little p.p_align bytes offset)
IsTrueOfSegment file p PartOfEntry =
    IsOk (segment_bytes file p) × (p.p_type ≡ pt_dynamic) × IsTrueOfDynamic file p PartOfEntry
IsTrueOfSegment file p EntriesWithoutEnd =
    (p.p_type ≡ pt_dynamic) × IsTrueOfDynamic file p EntriesWithoutEnd
IsTrueOfSegment file p OtherSection = (p.p_type ≡ pt_dynamic) × IsTrueOfDynamic file p OtherSection

-- ---- the segments of a file

-- the first segment of type t that is not before an index
pub record IsFirstFrom (t : ℕ) (segments : List ProgramHeader) (start i : ℕ) : Type 0 where
  pub here : IsSomeAnd (slice_get segments i) (λ p. p.p_type ≡ t)
  pub from : start ≤ i
  pub before : (k : ℕ) (p : ProgramHeader) → start ≤ k → k < i → slice_get segments k ≡ Some p → p.p_type ≢ t

-- no segment from an index on has type t
abbrev pub NoneFrom : ℕ → List ProgramHeader → ℕ → Type 0
NoneFrom t segments start =
    (k : ℕ) (p : ProgramHeader) → start ≤ k → slice_get segments k ≡ Some p → p.p_type ≢ t

-- the first segment of type `earlier`, and the first of type `later` after it
pub record IsFirstPair (earlier later : ℕ) (segments : List ProgramHeader) (first index : ℕ) : Type 0 where
  pub earlier_one : IsFirstFrom earlier segments 0 first
  pub later_one : IsFirstFrom later segments (first + 1) index

-- the segment of an index has this type and this fault, and each before it is sound
pub record IsFirstUnsound (file : ObjectFile) (index p_type : ℕ) (fault : SegmentFault) : Type 0 where
  pub here : IsSomeAnd (slice_get file.segments index) (λ p. (p.p_type ≡ p_type) × IsTrueOfSegment file p fault)
  pub before : SoundBelow file index

-- two loaded segments: the second begins before the first one ends. No loaded one comes between them, and the addresses
-- of those before the second ascend.
pub record IsFirstOverlap (segments : List ProgramHeader) (first index : ℕ) : Type 0 where
  pub here : IsSomeAnd (slice_get segments first) (λ p. (p.p_type ≡ pt_load)
      × IsSomeAnd (slice_get segments index) (λ q. (q.p_type ≡ pt_load) × (q.p_vaddr < memory_end p)))
  pub earlier : first < index
  pub between :
      (k : ℕ) (p : ProgramHeader) → first < k → k < index → slice_get segments k ≡ Some p → p.p_type ≢ pt_load
  pub before : LoadsRiseBelow segments index

-- of the segments in the order of the table, if their types are sound
abbrev pub IsTrueOfEach : ObjectFile → SegmentsFault → Type 0
IsTrueOfEach file (Segment index p_type fault) = IsFirstUnsound file index p_type fault
IsTrueOfEach file (OverlappingLoad first index) = EachSound file × IsFirstOverlap file.segments first index
IsTrueOfEach file (SecondInterp first index) = ⊥
IsTrueOfEach file (SecondDynamic first index) = ⊥
IsTrueOfEach file (SecondPhdr first index) = ⊥
IsTrueOfEach file (SecondTls first index) = ⊥
IsTrueOfEach file (PhdrAfterLoad first index) = ⊥

-- of the types of the segments
abbrev pub IsTrueOfTypes : List ProgramHeader → SegmentsFault → Type 0
IsTrueOfTypes segments (SecondInterp first index) = IsFirstPair pt_interp pt_interp segments first index
IsTrueOfTypes segments (SecondDynamic first index) =
    AtMostOne pt_interp segments × IsFirstPair pt_dynamic pt_dynamic segments first index
IsTrueOfTypes segments (SecondPhdr first index) =
    AtMostOne pt_interp segments × AtMostOne pt_dynamic segments × IsFirstPair pt_phdr pt_phdr segments first index
IsTrueOfTypes segments (SecondTls first index) =
    AtMostOne pt_interp segments × AtMostOne pt_dynamic segments × AtMostOne pt_phdr segments
    × IsFirstPair pt_tls pt_tls segments first index
IsTrueOfTypes segments (PhdrAfterLoad first index) =
    AtMostOne pt_interp segments × AtMostOne pt_dynamic segments × AtMostOne pt_phdr segments
    × AtMostOne pt_tls segments × IsFirstPair pt_load pt_phdr segments first index
IsTrueOfTypes segments (Segment index p_type fault) = ⊥
IsTrueOfTypes segments (OverlappingLoad first index) = ⊥

-- of a file: the types of its segments are checked first, then each segment, then the order of the loaded ones
abbrev pub IsTrueOfSegments : ObjectFile → SegmentsFault → Type 0
IsTrueOfSegments file (Segment index p_type fault) =
    SoundTypes file.segments × IsTrueOfEach file (Segment index p_type fault)
IsTrueOfSegments file (OverlappingLoad first index) =
    SoundTypes file.segments × IsTrueOfEach file (OverlappingLoad first index)
IsTrueOfSegments file (SecondInterp first index) = IsTrueOfTypes file.segments (SecondInterp first index)
IsTrueOfSegments file (SecondDynamic first index) = IsTrueOfTypes file.segments (SecondDynamic first index)
IsTrueOfSegments file (SecondPhdr first index) = IsTrueOfTypes file.segments (SecondPhdr first index)
IsTrueOfSegments file (SecondTls first index) = IsTrueOfTypes file.segments (SecondTls first index)
IsTrueOfSegments file (PhdrAfterLoad first index) = IsTrueOfTypes file.segments (PhdrAfterLoad first index)
