-- The loaded segments of a file that is sound, in order.
use Rattle.std.proofs.Common.{◌≡◌, ℕ, zero, suc, ◌<◌, Bool, true, false, List, [], ◌∷◌, Some, refl, ap, sym, ◌∙◌, subst, rules, tests, arith, if◌then◌else◌}
use Rattle.std.proofs.lemmas.Option.{slice_get-map, slice_get_within}
use Rattle.std.specs.List.{filter, slice_get}
use Rattle.elf_abi.specs.Values.{pt_load}
use Rattle.elf_records.specs.declared.segment.ProgramHeader.{ProgramHeader}
use Rattle.elf.specs.ObjectFile.{ObjectFile}
use Rattle.elf_check.specs.LoadPlan.{IsPlan, is_loaded, load_plan}
use Rattle.elf_check.specs.Segments.{SoundSegments}
use Rattle.elf_check.specs.SegmentsBytes.{bytes_of, with_bytes}
use Rattle.elf_check.proofs.Relocated.{mapped}
use Rattle.elf_check.proofs.SegmentsFound.{member_sound}

-- ---- members of a list that pass a test

module _ {A : Type 0} (p : A → Bool) where
  -- a member of a list, which passes
  abbrev pub At : List A → ℕ → A → Type 0
  At xs a x = (slice_get xs a ≡ Some x) × (p x ≡ true)

  -- two members in order, which pass
  pub record Pair (xs : List A) (x y : A) : Type 0 where
    pub first : ℕ
    pub second : ℕ
    pub order : first < second
    pub one : At xs first x
    pub other : At xs second y

  kept : (y : A) (ys : List A) → p y ≡ true → filter p (y ∷ ys) ≡ y ∷ filter p ys
  kept y ys e = ap (λ (b : Bool). if b then y ∷ filter p ys else filter p ys) e

  dropped : (y : A) (ys : List A) → p y ≡ false → filter p (y ∷ ys) ≡ filter p ys
  dropped y ys e = ap (λ (b : Bool). if b then y ∷ filter p ys else filter p ys) e

  first_or_later : (y : A) (ys : List A) (i : ℕ) (x : A) → p y ≡ true → slice_get (y ∷ filter p ys) i ≡ Some x → ((k : ℕ) → slice_get (filter p ys) k ≡ Some x → (a : ℕ) × At ys a x) → (a : ℕ) × At (y ∷ ys) a x
  first_or_later y ys zero x d e rest = (0, (e, subst (λ (z : A). p z ≡ true) (cc e) d))
  first_or_later y ys (suc i) x d e rest = let r = rest i e in (suc r.0, r.1)

  member_step : (y : A) (ys : List A) (i : ℕ) (x : A) (b : Bool) → p y ≡ b → slice_get (filter p (y ∷ ys)) i ≡ Some x → ((k : ℕ) → slice_get (filter p ys) k ≡ Some x → (a : ℕ) × At ys a x) → (a : ℕ) × At (y ∷ ys) a x
  member_step y ys i x true d e rest = first_or_later y ys i x d (subst (λ (zs : List A). slice_get zs i ≡ Some x) (kept y ys d) e) rest
  member_step y ys i x false d e rest = let r = rest i (subst (λ (zs : List A). slice_get zs i ≡ Some x) (dropped y ys d) e) in (suc r.0, r.1)

  pub member : (xs : List A) (i : ℕ) (x : A) → slice_get (filter p xs) i ≡ Some x → (a : ℕ) × At xs a x
  member [] i x e = absurd (cc e)
  member (y ∷ ys) i x e = member_step y ys i x (p y) refl e (λ k. member ys k x)

  later : (y : A) (ys : List A) (x z : A) → Pair ys x z → Pair (y ∷ ys) x z
  later y ys x z r = record { first = suc r.first; second = suc r.second; order = omega (arith, r.order); one = r.one; other = r.other }

  pair_kept : (y : A) (ys : List A) (i k : ℕ) (x z : A) → p y ≡ true → i < k → slice_get (y ∷ filter p ys) i ≡ Some x → slice_get (y ∷ filter p ys) k ≡ Some z → ((i k : ℕ) → i < k → slice_get (filter p ys) i ≡ Some x → slice_get (filter p ys) k ≡ Some z → Pair ys x z) → Pair (y ∷ ys) x z
  pair_kept y ys i zero x z d less e f rest = absurd (omega (arith, less))
  pair_kept y ys zero (suc k) x z d less e f rest =
      let r = member ys k z f in
      record { first = 0; second = suc r.0; order = omega arith; one = (e, subst (λ (w : A). p w ≡ true) (cc e) d); other = r.1 }
  pair_kept y ys (suc i) (suc k) x z d less e f rest = later y ys x z (rest i k (omega (arith, less)) e f)

  pair_step : (y : A) (ys : List A) (i k : ℕ) (x z : A) (b : Bool) → p y ≡ b → i < k → slice_get (filter p (y ∷ ys)) i ≡ Some x → slice_get (filter p (y ∷ ys)) k ≡ Some z → ((i k : ℕ) → i < k → slice_get (filter p ys) i ≡ Some x → slice_get (filter p ys) k ≡ Some z → Pair ys x z) → Pair (y ∷ ys) x z
  pair_step y ys i k x z true d less e f rest =
      pair_kept y ys i k x z d less (subst (λ (zs : List A). slice_get zs i ≡ Some x) (kept y ys d) e)
      (subst (λ (zs : List A). slice_get zs k ≡ Some z) (kept y ys d) f) rest
  pair_step y ys i k x z false d less e f rest =
      later y ys x z (rest i k less (subst (λ (zs : List A). slice_get zs i ≡ Some x) (dropped y ys d) e)
      (subst (λ (zs : List A). slice_get zs k ≡ Some z) (dropped y ys d) f))

  pub pair : (xs : List A) (i k : ℕ) (x z : A) → i < k → slice_get (filter p xs) i ≡ Some x → slice_get (filter p xs) k ≡ Some z → Pair xs x z
  pair [] i k x z less e f = absurd (cc e)
  pair (y ∷ ys) i k x z less e f = pair_step y ys i k x z (p y) refl less e f (λ a b. pair ys a b x z)

-- ---- the plan

-- a loaded segment with its bytes is one of the table
of_table : (file : ObjectFile) (a : ℕ) (s : ProgramHeader × List ℕ) → slice_get (with_bytes file file.segments) a ≡ Some s → slice_get file.segments a ≡ Some s.0
of_table file a s e =
    let m = mapped (λ (p : ProgramHeader). (p, bytes_of file p)) (slice_get file.segments a) s (sym (slice_get-map (λ (p : ProgramHeader). (p, bytes_of file p)) file.segments a) ∙ e) in
    m.1 ∙ ap (λ (q : ProgramHeader × List ℕ). Some q.0) m.2

has_type : (s : ProgramHeader × List ℕ) → is_loaded s ≡ true → s.0.p_type ≡ pt_load
has_type s e = search (rules, tests)

pub sound_plan : (file : ObjectFile) → SoundSegments file → IsPlan file.class (load_plan file)
sound_plan file sound = record {
  each = λ i s e.
      let r = member is_loaded (with_bytes file file.segments) i s e in
      (member_sound file r.0 s.0 (of_table file r.0 s r.1.0) sound).load (has_type s r.1.1);
  rise = λ i k s t less e f.
      let r = pair is_loaded (with_bytes file file.segments) i k s t less e f in
      let there = of_table file r.second t r.other.0 in
      sound.loads r.first r.second s.0 t.0 r.order (slice_get_within file.segments r.second t.0 there) (of_table file r.first s r.one.0) there
      (has_type s r.one.1) (has_type t r.other.1);
}
