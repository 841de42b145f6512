-- A segment has one fault at most.
use Rattle.std.proofs.Common.{◌≡◌, ◌⊎◌, ℕ, ◌≤◌, Bool, true, false, List, refl, ap, sym, ◌∙◌, inl, inr, arith, lit≤}
use Rattle.std.specs.Prelude.{◌==◌, if◌then◌else◌}
use Rattle.std.specs.Result.{IsOk, IsOkAnd}
use Rattle.elf_abi.specs.Values.{pt_interp, pt_load, pt_note, pt_tls}
use Rattle.elf_records.specs.declared.segment.ProgramHeader.{ProgramHeader}
use Rattle.elf.specs.ObjectFile.{ObjectFile}
use Rattle.elf_check.specs.Notes.{IsNoNote}
use Rattle.elf_check.specs.Segments.{EndsWithNul, FitsMemory, IsWhole, has_null, segment_bytes}
use Rattle.elf_check.specs.SegmentsFaults.{IsTrueOfSegment}
use Rattle.elf_check.specs.declared.segments.faults.SegmentFault.{SegmentFault}
use Rattle.elf_check.specs.declared.segments.faults.SegmentFault.TheVariants.{EntriesWithoutEnd, FileSize, NoBytes}
use Rattle.elf_check.specs.declared.segments.faults.SegmentFault.TheVariants.{NoLastNul, NoNote, OtherSection}
use Rattle.elf_check.specs.declared.segments.faults.SegmentFault.TheVariants.{PartOfEntry, PastAddresses}
use Rattle.elf_check.proofs.SegmentsVerdicts.{not_both}
use Rattle.elf_laws.proofs.Once.{ByStage, IsKnown, IsMadeOf, IsOnce, both, is_ok, not_below, not_err}
use Rattle.elf_laws.proofs.Once.{one_by_stage, one_known, one_made}

-- what a segment of a type has
abbrev kind_of : ℕ → ℕ
kind_of t =
    if t == pt_load then 0
    else if t == pt_tls then 0
    else if t == pt_interp then 1
    else if t == pt_note then 2
    else 3

module _ (file : ObjectFile) (p : ProgramHeader) where
  abbrev ByKind : ℕ → (SegmentFault → Type 0) → (SegmentFault → Type 0) → SegmentFault → Type 0
  ByKind k Now Later = ByStage (kind_of p.p_type ≡ k → ⊥) Now Later

  abbrev HasNull : Bool → List ℕ → Type 0
  HasNull b bytes = has_null file bytes ≡ b

  abbrev ByEnd : SegmentFault → Type 0
  ByEnd = ByStage (IsOkAnd (segment_bytes file p) (HasNull true)) (IsKnown EntriesWithoutEnd) (IsKnown OtherSection)

  abbrev Entries : SegmentFault → Type 0
  Entries = ByStage (IsWhole file.class p) (IsKnown PartOfEntry) ByEnd

  abbrev OfNotes : ℕ → Type 0
  OfNotes offset = IsOkAnd (segment_bytes file p) (λ bytes. IsNoNote file.little p.p_align bytes offset)

  abbrev Notes : SegmentFault → Type 0
  Notes = ByKind 2 (IsMadeOf NoNote OfNotes) Entries

  abbrev Paths : SegmentFault → Type 0
  Paths = ByKind 1 (IsKnown NoLastNul) Notes

  abbrev Sizes : SegmentFault → Type 0
  Sizes = ByStage (FitsMemory p) (IsKnown FileSize) (IsKnown PastAddresses)

  abbrev Kinds : SegmentFault → Type 0
  Kinds = ByKind 0 Sizes Paths

  module _ (fault : SegmentFault) (k : ℕ) (kind : kind_of p.p_type ≡ k) where
    past_0 : 1 ≤ k → Paths fault → Kinds fault
    past_0 least x = inr (not_below (kind_of p.p_type) k 0 kind (omega (arith, least)), x)

    past_1 : 2 ≤ k → Notes fault → Kinds fault
    past_1 least x = past_0 (omega (arith, least)) (inr (not_below (kind_of p.p_type) k 1 kind (omega (arith, least)), x))

    past_2 : 3 ≤ k → Entries fault → Kinds fault
    past_2 least x = past_1 (omega (arith, least)) (inr (not_below (kind_of p.p_type) k 2 kind (omega (arith, least)), x))

  kind_0 : (p.p_type ≡ pt_load) ⊎ (p.p_type ≡ pt_tls) → kind_of p.p_type ≡ 0
  kind_0 (inl e) = ap kind_of e
  kind_0 (inr e) = ap kind_of e

  by_bytes : (fault : SegmentFault) → IsTrueOfSegment file p fault → ByStage (IsOk (segment_bytes file p)) (IsKnown NoBytes) Kinds fault
  by_bytes NoBytes t = inl (λ ok. not_err (segment_bytes file p) ok t, refl)
  by_bytes FileSize t = inr (t.0, inl (λ other. other (kind_0 t.1), inl (λ fits. let more = t.2 in omega (arith, fits, more), refl)))
  by_bytes PastAddresses t = inr (t.0, inl (λ other. other (ap kind_of t.1), inr (t.2, refl)))
  by_bytes NoLastNul t =
      let kind : kind_of p.p_type ≡ 1 = ap kind_of t.0 in
      inr (is_ok (λ (bytes : List ℕ). ¬ EndsWithNul bytes) (segment_bytes file p) t.2, past_0 NoLastNul 1 kind (lit≤ tt) (inl (λ other. other kind, refl)))
  by_bytes (NoNote offset) t =
      let kind : kind_of p.p_type ≡ 2 = ap kind_of t.0 in
      inr (is_ok (λ (bytes : List ℕ). IsNoNote file.little p.p_align bytes offset) (segment_bytes file p) t.2, past_1 (NoNote offset) 2 kind (lit≤ tt) (inl (λ other. other kind, (offset, refl, t.2))))
  by_bytes PartOfEntry t =
      let kind : kind_of p.p_type ≡ 3 = ap kind_of t.1 in
      inr (t.0, past_2 PartOfEntry 3 kind (lit≤ tt) (inl (t.2, refl)))
  by_bytes EntriesWithoutEnd t =
      let kind : kind_of p.p_type ≡ 3 = ap kind_of t.0 in
      let entries = t.1 in
      inr (is_ok (HasNull false) (segment_bytes file p) entries.2, past_2 EntriesWithoutEnd 3 kind (lit≤ tt) (inr (entries.0, inl (λ has. both (HasNull true) (HasNull false) ⊥ (segment_bytes file p) has entries.2 (λ bytes e yes no. not_both (has_null file bytes) yes no), refl))))
  by_bytes OtherSection t =
      let kind : kind_of p.p_type ≡ 3 = ap kind_of t.0 in
      let entries = t.1 in
      inr (is_ok (HasNull true) (segment_bytes file p) entries.2, past_2 OtherSection 3 kind (lit≤ tt) (inr (entries.0, inr (entries.2, refl))))

  one_note : IsOnce OfNotes
  one_note one other x y =
      both (λ bytes. IsNoNote file.little p.p_align bytes one) (λ bytes. IsNoNote file.little p.p_align bytes other) (one ≡ other) (segment_bytes file p) x y (λ bytes e a b. sym a.here ∙ b.here)

  pub one_segment_fault : IsOnce (IsTrueOfSegment file p)
  one_segment_fault one other x y =
      let ended = one_by_stage (IsOkAnd (segment_bytes file p) (HasNull true)) (IsKnown EntriesWithoutEnd) (IsKnown OtherSection) (one_known EntriesWithoutEnd) (one_known OtherSection) in
      let entries = one_by_stage (IsWhole file.class p) (IsKnown PartOfEntry) ByEnd (one_known PartOfEntry) ended in
      let notes = one_by_stage (kind_of p.p_type ≡ 2 → ⊥) (IsMadeOf NoNote OfNotes) Entries (one_made NoNote OfNotes one_note) entries in
      let paths = one_by_stage (kind_of p.p_type ≡ 1 → ⊥) (IsKnown NoLastNul) Notes (one_known NoLastNul) notes in
      let sizes = one_by_stage (FitsMemory p) (IsKnown FileSize) (IsKnown PastAddresses) (one_known FileSize) (one_known PastAddresses) in
      let kinds = one_by_stage (kind_of p.p_type ≡ 0 → ⊥) Sizes Paths sizes paths in
      one_by_stage (IsOk (segment_bytes file p)) (IsKnown NoBytes) Kinds (one_known NoBytes) kinds one other (by_bytes one x) (by_bytes other y)
