-- The build id of a partly loaded file.
use Rattle.std.proofs.Common.{◌≡◌, ◌==◌, inl, inr, ℕ, Bool, false, List, [], ◌∷◌, Result, Ok, Err, Option, Some, None, refl, ap, sym, subst, ◌∙◌, IfSome}
use Rattle.std.specs.Option.{option_map}
use Rattle.std.specs.Prelude.{IfErr}
use Rattle.elf_abi.specs.Values.{pt_note, sht_note}
use Rattle.elf_records.specs.declared.parse.ParseError.{ParseError}
use Rattle.elf_records.specs.declared.section.SectionHeader.{SectionHeader}
use Rattle.elf_records.specs.declared.segment.ProgramHeader.{ProgramHeader}
use Rattle.elf_reading.specs.Refusals.{IsRefused, Kind, kind}
use Rattle.elf.specs.Answers.{section_data_as_notes, segment_data_as_notes}
use Rattle.elf.specs.ElfStream.{Keeps, StreamView}
use Rattle.elf.specs.Loaded.{AreLoadedOf, is_not_cached, loaded_ranges}
use Rattle.elf.specs.ObjectFile.{FileOf, ObjectFile, Partial, err_map}
use Rattle.elf.specs.Parts.{ArePartOf, Follows, Ranges, all_ranges, loaded}
use Rattle.elf.specs.Readers.{SectionDataAsNotes, SegmentDataAsNotes}
use Rattle.elf.specs.StreamFile.{stream_file}
use Rattle.elf.specs.declared.read_error.ReadError.{ReadError}
use Rattle.elf.specs.declared.read_error.ReadError.TheVariants.{Parse}
use Rattle.elf.proofs.Partly.{follows_bind, follows_if, follows_map, nothing_missing, part_follows}
use Rattle.elf_tools.specs.BuildId.{MissesId, build_id, first_by, first_id, or_else, section_id, sections_id, segment_id, segments_id}
use Rattle.elf_linking.specs.Missing.{loaded_part}
use Rattle.elf_linking.specs.Readings.{IsCopy, IsReading, NeedsMemory}
use Rattle.elf_linking.proofs.Missing.{Loading, held_first}
use Rattle.elf_linking.proofs.Naming.{part_of_old, ranges_of_old}

-- ---- the id of a part is that of the whole file, or a range is missing

module _ (is_missing : ℕ × ℕ → Bool) where
  else_follows : {A : Type 0} (other : Result (Option A) ParseError) (one : Result (Option A) ReadError) (found : Option A) → Follows is_missing other one → Follows is_missing (or_else other found) (or_else one found)
  else_follows other one (Some x) h = inl refl
  else_follows other one None h = h

  first_follows : {H A : Type 0} (found : H → Result (Option A) ParseError) (one : H → Result (Option A) ReadError) (hs : List H) → ((h : H) → Follows is_missing (found h) (one h)) → Follows is_missing (first_by found hs) (first_by one hs)
  first_follows found one [] each = inl refl
  first_follows found one (h ∷ hs) each =
      follows_bind is_missing (found h) (one h) (or_else (first_by found hs)) (or_else (first_by one hs)) (each h) (λ o. else_follows (first_by found hs) (first_by one hs) o (first_follows found one hs each))

module _ (whole : ObjectFile) (range : Ranges) (is_missing : ℕ × ℕ → Bool) (each : ArePartOf whole is_missing range) where
  abbrev part : FileOf Partial
  part = loaded whole range

  segment_follows : (p : ProgramHeader) → Follows is_missing (segment_id whole p) (segment_id part p)
  segment_follows p = follows_if is_missing (p.p_type == pt_note) _ _ _ _ (follows_map is_missing first_id (segment_data_as_notes whole p) (segment_data_as_notes part p) (part_follows whole range is_missing each (SegmentDataAsNotes p))) (inl refl)

  section_follows : (s : SectionHeader) → Follows is_missing (section_id whole s) (section_id part s)
  section_follows s = follows_if is_missing (s.sh_type == sht_note) _ _ _ _ (follows_map is_missing first_id (section_data_as_notes whole s) (section_data_as_notes part s) (part_follows whole range is_missing each (SectionDataAsNotes s))) (inl refl)

  pub id_follows : Follows is_missing (build_id whole) (build_id part)
  id_follows =
      follows_bind is_missing (segments_id whole) (segments_id part) (or_else (sections_id whole)) (or_else (sections_id part))
      (first_follows is_missing (segment_id whole) (segment_id part) whole.segments segment_follows)
      (λ o. else_follows is_missing (sections_id whole) (sections_id part) o (first_follows is_missing (section_id whole) (section_id part) whole.sections section_follows))

pub whole_id : (whole : ObjectFile) → build_id (loaded whole (all_ranges whole)) ≡ err_map Parse (build_id whole)
whole_id whole = nothing_missing (build_id whole) _ (id_follows whole (all_ranges whole) (λ _. false) (λ start size. inl refl))

-- ---- what is read of a part

-- the value is that of the whole, and the error
ok_of : {Y : Type 0} (is_missing : ℕ × ℕ → Bool) (whole : Result Y ParseError) (part : Result Y ReadError) (y : Y) → Follows is_missing whole part → part ≡ Ok y → whole ≡ Ok y
ok_of is_missing (Ok x) part y (inl h) is = cc (h, is)
ok_of is_missing (Err e) part y (inl h) is = cc (h, is)
ok_of is_missing whole part y (inr h) is = cc (h.2, is)

err_of : {Y : Type 0} (is_missing : ℕ × ℕ → Bool) (whole : Result Y ParseError) (part : Result Y ReadError) (e : ParseError) → Follows is_missing whole part → part ≡ Err (Parse e) → whole ≡ Err e
err_of is_missing (Ok x) part e (inl h) is = cc (h, is)
err_of is_missing (Err x) part e (inl h) is = cc (h, is)
err_of is_missing whole part e (inr h) is = cc (h.2, is)

-- a copy is the value, or an allocation failed
copied_so : {T Y : Type 0} (shown : T → Y) (answer : Result (Option Y) ParseError) (can_fail : Bool) (before now : ℕ) (id : Option Y) (r : Result (Option T) ParseError) → answer ≡ Ok id → now ≡ before → IsCopy shown (Ok id) r → IsReading kind (option_map shown) answer can_fail before now r
copied_so shown answer can_fail before now (Some y) (Ok copy) is same copied = (same, is ∙ ap Ok (sym copied))
copied_so shown answer can_fail before now (Some y) (Err e) is same copied = subst (IsRefused before now can_fail (answer ≡ Err e)) (sym copied) same
copied_so shown answer can_fail before now None r is same copied = subst (IsReading kind (option_map shown) answer can_fail before now) (sym copied) (same, is)

-- it takes memory only if there is a value
copied_memory : {T Y : Type 0} (shown : T → Y) (id : Option Y) (r : Result (Option T) ParseError) (P : Type 0) → IsCopy shown (Ok id) r → (NeedsMemory (Ok id) → P) → IfErr r (λ e. kind e ≡ Kind.AllocationFailure → P)
copied_memory shown (Some y) (Ok copy) P copied then = tt
copied_memory shown (Some y) (Err e) P copied then = λ k. then tt
copied_memory shown None (Ok copy) P copied then = tt
copied_memory shown None (Err e) P copied then = cc copied

-- and a range that is missing takes memory
pub missed_memory : (part : FileOf Partial) (range : ℕ × ℕ) → MissesId part range → NeedsMemory (build_id part)
missed_memory part range missed = subst NeedsMemory (sym missed) tt

module _ {E : Type 0} (little : E → Bool) (old now : StreamView E) where
  pub id_memory : {T : Type 0} (shown : T → List ℕ) (id : Option (List ℕ)) (r : Result (Option T) ParseError) → Loading little MissesId old now → Ok id ≡ build_id (loaded_part little now) → IsCopy shown (Ok id) r
      → IfErr r (λ e. kind e ≡ Kind.AllocationFailure → NeedsMemory (build_id (loaded_part little old)))
  id_memory shown id r so_far is copied =
      copied_memory shown id r _ copied (λ needs.
      held_first little MissesId (λ part. NeedsMemory (build_id part)) old now so_far (missed_memory (loaded_part little old)) (subst NeedsMemory is needs))

  module _ (keeps : Keeps old now) where
    follows_here : (bytes : List ℕ) → AreLoadedOf little now bytes → Follows (is_not_cached now) (build_id (stream_file little old bytes)) (build_id (loaded_part little now))
    follows_here bytes of =
        let whole = stream_file little old bytes in
        subst (λ p. Follows (is_not_cached now) (build_id whole) (build_id p)) (sym (part_of_old little old now keeps bytes of)) (id_follows whole (loaded_ranges now) (is_not_cached now) (ranges_of_old little old now keeps bytes of))

    pub id_copied : {T : Type 0} (shown : T → List ℕ) (known : Option (List ℕ)) (id : Option (List ℕ)) (r : Result (Option T) ParseError) → IfSome known (λ bytes. AreLoadedOf little now bytes) → IfSome known (λ bytes. now.failures ≡ old.failures) → Ok id ≡ build_id (loaded_part little now) → IsCopy shown (Ok id) r
        → IfSome known (λ bytes. IsReading kind (option_map shown) (build_id (stream_file little old bytes)) old.can_fail old.failures now.failures r)
    id_copied shown None id r of same is copied = tt
    id_copied shown (Some bytes) id r of same is copied =
        copied_so shown (build_id (stream_file little old bytes)) old.can_fail old.failures now.failures id r (ok_of (is_not_cached now) _ _ id (follows_here bytes of) (sym is)) same copied

    pub id_refused : (known : Option (List ℕ)) (e : ParseError) → IfSome known (λ bytes. AreLoadedOf little now bytes) → IfSome known (λ bytes. now.failures ≡ old.failures) → Err (Parse e) ≡ build_id (loaded_part little now) → kind e ≡ Kind.Refusal
        → IfSome known (λ bytes. IsRefused old.failures now.failures old.can_fail (build_id (stream_file little old bytes) ≡ Err e) (kind e))
    id_refused None e of same is plain = tt
    id_refused (Some bytes) e of same is plain =
        let whole = build_id (stream_file little old bytes) in
        subst (IsRefused old.failures now.failures old.can_fail (whole ≡ Err e)) (sym plain) (same, err_of (is_not_cached now) whole _ e (follows_here bytes of) (sym is))
