-- The segments of a file have one fault at most.
use Rattle.std.proofs.Common.{◌≡◌, ℕ, ◌+◌, ◌<◌, List, refl, ap, sym, ◌∙◌, subst, inl, inr, arith}
use Rattle.std.proofs.lemmas.Option.{slice_get_within}
use Rattle.std.specs.List.{slice_get}
use Rattle.std.specs.Option.{IsSomeAnd}
use Rattle.elf_abi.specs.Values.{pt_dynamic, pt_interp, pt_load, pt_phdr, pt_tls}
use Rattle.elf_records.specs.declared.segment.ProgramHeader.{ProgramHeader}
use Rattle.elf.specs.ObjectFile.{ObjectFile}
use Rattle.elf_check.specs.Segments.{AtMostOne, EachSound, NoneFollows, memory_end}
use Rattle.elf_check.specs.SegmentsFaults.{IsFirstFrom, IsFirstOverlap, IsFirstPair, IsFirstUnsound, IsTrueOfSegment}
use Rattle.elf_check.specs.SegmentsFaults.{IsTrueOfSegments}
use Rattle.elf_check.specs.declared.segments.faults.SegmentFault.{SegmentFault}
use Rattle.elf_check.specs.declared.segments.faults.SegmentsFault.{SegmentsFault}
use Rattle.elf_check.specs.declared.segments.faults.SegmentsFault.TheVariants.{OverlappingLoad, PhdrAfterLoad}
use Rattle.elf_check.specs.declared.segments.faults.SegmentsFault.TheVariants.{SecondDynamic, SecondInterp, SecondPhdr}
use Rattle.elf_check.specs.declared.segments.faults.SegmentsFault.TheVariants.{SecondTls, Segment}
use Rattle.elf_check.proofs.SegmentsVerdicts.{true_pair, true_segment}
use Rattle.elf_laws.proofs.Once.{ByStage, IsOnce, both_some, one_by_stage, one_number, some_value}
use Rattle.elf_laws.proofs.OneOfSegment.{one_segment_fault}

-- ---- two segments

-- a fault of two segments
abbrev pub OfPair : {F : Type 0} → (ℕ → ℕ → F) → (ℕ → ℕ → Type 0) → F → Type 0
OfPair make IsTrue fault = (i : ℕ) × (j : ℕ) × (fault ≡ make i j) × IsTrue i j

pub one_of_pair : {F : Type 0} (make : ℕ → ℕ → F) (IsTrue : ℕ → ℕ → Type 0) → ((i j k l : ℕ) → IsTrue i j → IsTrue k l → (i ≡ k) × (j ≡ l)) → IsOnce (OfPair make IsTrue)
one_of_pair make IsTrue once one other (i, j, d, x) (k, l, e, y) =
    let same = once i j k l x y in
    d ∙ ap (λ n. make n j) same.0 ∙ ap (make k) same.1 ∙ sym e

module _ (segments : List ProgramHeader) where
  not_from : (t start i j : ℕ) → IsFirstFrom t segments start i → IsFirstFrom t segments start j → i < j → ⊥
  not_from t start i j x y less =
      some_value (λ (p : ProgramHeader). p.p_type ≡ t) ⊥ (slice_get segments i) x.here (λ p e is. y.before i p x.from less e is)

  one_from : (t start i j : ℕ) → IsFirstFrom t segments start i → IsFirstFrom t segments start j → i ≡ j
  one_from t start i j x y = one_number i j (not_from t start i j x y) (not_from t start j i y x)

  pub one_pair : (earlier later i j k l : ℕ) → IsFirstPair earlier later segments i j → IsFirstPair earlier later segments k l → (i ≡ k) × (j ≡ l)
  one_pair earlier later i j k l x y =
      let first = one_from earlier 0 i k x.earlier_one y.earlier_one in
      let there = subst (λ (n : ℕ). IsFirstFrom later segments (n + 1) l) (sym first) y.later_one in
      (first, one_from later (i + 1) j l x.later_one there)

  abbrev BeginsBefore : ProgramHeader → ProgramHeader → Type 0
  BeginsBefore p q = (q.p_type ≡ pt_load) × (q.p_vaddr < memory_end p)

  abbrev Overlaps : ℕ → ProgramHeader → Type 0
  Overlaps j p = (p.p_type ≡ pt_load) × IsSomeAnd (slice_get segments j) (BeginsBefore p)

  -- the loaded segments before the second one of a first overlap do not overlap
  not_less : (i j k l : ℕ) → IsFirstOverlap segments i j → IsFirstOverlap segments k l → j < l → ⊥
  not_less i j k l x y less =
      some_value (Overlaps j) ⊥ (slice_get segments i) x.here (λ p e t.
      some_value (BeginsBefore p) ⊥ (slice_get segments j) t.1 (λ q d u.
      let least = y.before i j p q x.earlier less e d t.0 u.0 in
      let begins = u.1 in
      absurd (omega (arith, least, begins))))

  not_nearer : (i j k : ℕ) → IsFirstOverlap segments i j → IsFirstOverlap segments k j → i < k → ⊥
  not_nearer i j k x y less =
      some_value (Overlaps j) ⊥ (slice_get segments k) y.here (λ p e t. x.between k p less y.earlier e t.0)

  pub one_overlap : (i j k l : ℕ) → IsFirstOverlap segments i j → IsFirstOverlap segments k l → (i ≡ k) × (j ≡ l)
  one_overlap i j k l x y =
      let second = one_number j l (not_less i j k l x y) (not_less k l i j y x) in
      let there = subst (λ (n : ℕ). IsFirstOverlap segments k n) (sym second) y in
      (one_number i k (not_nearer i j k x there) (not_nearer k j i there x), second)

module _ (file : ObjectFile) where
  -- ---- one segment

  abbrev HasFault : ℕ → SegmentFault → ProgramHeader → Type 0
  HasFault t own p = (p.p_type ≡ t) × IsTrueOfSegment file p own

  abbrev AtSegment : SegmentsFault → Type 0
  AtSegment fault = (i : ℕ) × (t : ℕ) × (own : SegmentFault) × (fault ≡ Segment i t own) × IsFirstUnsound file i t own

  not_before : (i j t u : ℕ) (f g : SegmentFault) → IsFirstUnsound file i t f → IsFirstUnsound file j u g → i < j → ⊥
  not_before i j t u f g x y less =
      some_value (HasFault t f) ⊥ (slice_get file.segments i) x.here (λ p e is. true_segment file p f is.1 (y.before i p less e))

  pub one_here : (i t u : ℕ) (f g : SegmentFault) → IsSomeAnd (slice_get file.segments i) (HasFault t f) → IsSomeAnd (slice_get file.segments i) (HasFault u g) → Segment i t f ≡ Segment i u g
  one_here i t u f g x y =
      both_some (HasFault t f) (HasFault u g) (Segment i t f ≡ Segment i u g) (slice_get file.segments i) x y (λ p a b.
      ap (λ n. Segment i n f) (sym a.0 ∙ b.0) ∙ ap (Segment i u) (one_segment_fault file p f g a.1 b.1))

  one_at_segment : IsOnce AtSegment
  one_at_segment one other (i, t, f, d, x) (j, u, g, e, y) =
      let place = one_number i j (not_before i j t u f g x y) (not_before j i u t g f y x) in
      let there = subst (λ (n : ℕ). IsSomeAnd (slice_get file.segments n) (HasFault u g)) (sym place) y.here in
      d ∙ one_here i t u f g x.here there ∙ ap (λ n. Segment n u g) place ∙ sym e

  -- ---- all segments

  abbrev Pair : ℕ → ℕ → ℕ → ℕ → Type 0
  Pair earlier later = IsFirstPair earlier later file.segments

  abbrev Overlap : ℕ → ℕ → Type 0
  Overlap = IsFirstOverlap file.segments

  abbrev ByEach : SegmentsFault → Type 0
  ByEach = ByStage (EachSound file) AtSegment (OfPair OverlappingLoad Overlap)

  abbrev ByOrder : SegmentsFault → Type 0
  ByOrder = ByStage (NoneFollows pt_load pt_phdr file.segments) (OfPair PhdrAfterLoad (Pair pt_load pt_phdr)) ByEach

  abbrev ByTls : SegmentsFault → Type 0
  ByTls = ByStage (AtMostOne pt_tls file.segments) (OfPair SecondTls (Pair pt_tls pt_tls)) ByOrder

  abbrev ByPhdr : SegmentsFault → Type 0
  ByPhdr = ByStage (AtMostOne pt_phdr file.segments) (OfPair SecondPhdr (Pair pt_phdr pt_phdr)) ByTls

  abbrev ByDynamic : SegmentsFault → Type 0
  ByDynamic = ByStage (AtMostOne pt_dynamic file.segments) (OfPair SecondDynamic (Pair pt_dynamic pt_dynamic)) ByPhdr

  abbrev ByInterp : SegmentsFault → Type 0
  ByInterp = ByStage (AtMostOne pt_interp file.segments) (OfPair SecondInterp (Pair pt_interp pt_interp)) ByDynamic

  not_none : (earlier later i j : ℕ) → Pair earlier later i j → NoneFollows earlier later file.segments → ⊥
  not_none earlier later i j pair none = true_pair earlier later file.segments i j pair none

  not_each : (i t : ℕ) (own : SegmentFault) → IsFirstUnsound file i t own → EachSound file → ⊥
  not_each i t own x each =
      some_value (HasFault t own) ⊥ (slice_get file.segments i) x.here (λ p e is.
      true_segment file p own is.1 (each i p (slice_get_within file.segments i p e) e))

  by_interp : (fault : SegmentsFault) → IsTrueOfSegments file fault → ByInterp fault
  by_interp (SecondInterp i j) t = inl (not_none pt_interp pt_interp i j t, (i, j, refl, t))
  by_interp (SecondDynamic i j) t = inr (t.0, inl (not_none pt_dynamic pt_dynamic i j t.1, (i, j, refl, t.1)))
  by_interp (SecondPhdr i j) t = inr (t.0, inr (t.1, inl (not_none pt_phdr pt_phdr i j t.2, (i, j, refl, t.2))))
  by_interp (SecondTls i j) t = inr (t.0, inr (t.1, inr (t.2, inl (not_none pt_tls pt_tls i j t.3, (i, j, refl, t.3)))))
  by_interp (PhdrAfterLoad i j) t =
      inr (t.0, inr (t.1, inr (t.2, inr (t.3, inl (not_none pt_load pt_phdr i j t.4, (i, j, refl, t.4))))))
  by_interp (Segment i n own) t =
      let types = t.0 in
      inr (types.interp, inr (types.dynamic, inr (types.phdr, inr (types.tls, inr (types.phdr_first, inl (not_each i n own t.1, (i, n, own, refl, t.1)))))))
  by_interp (OverlappingLoad i j) t =
      let types = t.0 in
      let each = t.1 in
      inr (types.interp, inr (types.dynamic, inr (types.phdr, inr (types.tls, inr (types.phdr_first, inr (each.0, (i, j, refl, each.1)))))))

  pub one_segments_fault : IsOnce (IsTrueOfSegments file)
  one_segments_fault one other x y =
      let each = one_by_stage (EachSound file) AtSegment (OfPair OverlappingLoad Overlap) one_at_segment (one_of_pair OverlappingLoad Overlap (one_overlap file.segments)) in
      let order = one_by_stage (NoneFollows pt_load pt_phdr file.segments) (OfPair PhdrAfterLoad (Pair pt_load pt_phdr)) ByEach (one_of_pair PhdrAfterLoad (Pair pt_load pt_phdr) (one_pair file.segments pt_load pt_phdr)) each in
      let tls = one_by_stage (AtMostOne pt_tls file.segments) (OfPair SecondTls (Pair pt_tls pt_tls)) ByOrder (one_of_pair SecondTls (Pair pt_tls pt_tls) (one_pair file.segments pt_tls pt_tls)) order in
      let phdr = one_by_stage (AtMostOne pt_phdr file.segments) (OfPair SecondPhdr (Pair pt_phdr pt_phdr)) ByTls (one_of_pair SecondPhdr (Pair pt_phdr pt_phdr) (one_pair file.segments pt_phdr pt_phdr)) tls in
      let dynamic = one_by_stage (AtMostOne pt_dynamic file.segments) (OfPair SecondDynamic (Pair pt_dynamic pt_dynamic)) ByPhdr (one_of_pair SecondDynamic (Pair pt_dynamic pt_dynamic) (one_pair file.segments pt_dynamic pt_dynamic)) phdr in
      one_by_stage (AtMostOne pt_interp file.segments) (OfPair SecondInterp (Pair pt_interp pt_interp)) ByDynamic (one_of_pair SecondInterp (Pair pt_interp pt_interp) (one_pair file.segments pt_interp pt_interp)) dynamic one other (by_interp one x) (by_interp other y)
