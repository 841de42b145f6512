-- The answer over what was read of a file, beside the answer over the whole.
use Rattle.std.proofs.Common.{◌≡◌, ◌∙◌, ℕ, ◌+◌, ◌-◌, ◌<◌, ◌≤◌, Bool, true, List, [], ◌∷◌, ◌++◌, inl, inr, length, map, take, drop, IfSome, Option, Some, None, Result, Ok, Err, refl, sym, ap, subst, arith, true≢false}
use Rattle.std.proofs.lemmas.Bool.{and_parts}
use Rattle.std.proofs.lemmas.Bool.Decides.{nat_tests}
use Rattle.std.proofs.lemmas.List.{map-append}
use Rattle.std.proofs.lemmas.List.Elements.{All-cons, All-nil, All-push}
use Rattle.std.specs.List.{All}
use Rattle.std.specs.Prelude.{IsOk, IsTrue, nat_le, nat_lt}
use Rattle.elf_reading.specs.Cache.{IsOf, Piece}
use Rattle.elf_reading.specs.Refusals as refusals
use Rattle.elf_reading.specs.Refusals.{IsRefused}
use Rattle.elf.specs.LoadedRanges.{is_missing, part_of, parts_in}
use Rattle.elf.specs.declared.loaded_ranges.LoadedRange.{LoadedRange}
use Rattle.elf.specs.declared.loaded_ranges.LoadedParts.{LoadedParts}
use Rattle.elf_dynamic.specs.dynamic_view.Laws.{FollowsBy}
use Rattle.elf_loader.specs.Glibc.{loaded_file, verdict}
use Rattle.elf_loader.specs.GlibcLaws.{IsPartOf, VerdictFollows, parts_of, whole_file}
use Rattle.elf_loader.specs.declared.glibc.Candidate.{Candidate}
use Rattle.elf_loader.specs.declared.glibc.Kind.{Kind}
use Rattle.elf_loader.specs.declared.glibc.reading.FetchedRange.{FetchedRange}
use Rattle.elf_loader.specs.inner.GlibcReading.{IsAnswerOf, fetched_piece}

lower : (a b : ℕ) → nat_lt a b ≡ true → a < b
lower a b h = grind (arith, nat_tests)

within : (a b : ℕ) → nat_le a b ≡ true → a ≤ b
within a b h = grind (arith, nat_tests)

-- a range that is missing lies in the file
missing_lies : (size : ℕ) (parts : List Piece) (range : ℕ × ℕ) → IsTrue (is_missing size parts range) → (range.0 < range.1) × (range.1 ≤ size)
missing_lies size parts range is =
    let first = and_parts (nat_lt range.0 range.1) _ is in
    let second = and_parts (nat_le range.1 size) _ first.1 in
    (lower range.0 range.1 first.0, within range.1 size second.0)

module _ (kind : Kind) (bytes : List ℕ) (size : ℕ) (parts : List Piece) (same : size ≡ length bytes) where
  followed : (whole found : Result Candidate (ℕ × ℕ)) → verdict kind (whole_file bytes) ≡ whole → IsOk whole → FollowsBy (λ range. range) (is_missing size parts) whole found → IsAnswerOf kind bytes found
  followed (Ok x) found is ok (inl h) = subst (λ (r : Result Candidate (ℕ × ℕ)). IsAnswerOf kind bytes r) (sym h) is
  followed (Ok x) found is ok (inr h) =
      let lies = missing_lies size parts h.0 h.1 in
      let there : (h.0.0 < h.0.1) × (h.0.1 ≤ length bytes) = (lies.0, subst (λ n. h.0.1 ≤ n) same lies.1) in
      subst (λ (r : Result Candidate (ℕ × ℕ)). IsAnswerOf kind bytes r) (sym h.2) there
  followed (Err range) found is ok h = absurd (true≢false (sym ok))

-- nothing at the front is what the file has there
none_of : (bytes : List ℕ) → IsOf bytes (record { start = 0; bytes = [] })
none_of bytes = record { within = omega arith; same = refl }

parts_same : (front : List ℕ) (ranges : List LoadedRange) (pieces : List Piece) → front ≡ [] → map part_of ranges ≡ pieces → parts_in front ranges ≡ record { start = 0; bytes = [] } ∷ pieces
parts_same front ranges pieces none same = ap (λ (l : List ℕ). parts_in l ranges) none ∙ ap (λ (l : List Piece). record { start = 0; bytes = [] } ∷ l) same

pub answered : (kind : Kind) (bytes : List ℕ) (file : LoadedParts) (pieces : List Piece) → file.size ≡ length bytes → file.front.now ≡ [] → map part_of file.ranges.now ≡ pieces → All (IsOf bytes) pieces → (IsPartOf bytes file → VerdictFollows kind bytes file) → IsOk (verdict kind (whole_file bytes)) → IsAnswerOf kind bytes (verdict kind (loaded_file file))
answered kind bytes file pieces same front ranges sound follows ok =
    let parts : All (IsOf bytes) (parts_of file) = subst (All (IsOf bytes)) (sym (parts_same file.front.now file.ranges.now pieces front ranges)) (All-cons (IsOf bytes) (record { start = 0; bytes = [] }) pieces (none_of bytes) sound) in
    followed kind bytes file.size (parts_of file) same _ _ refl ok (follows (record { size = same; parts = parts }))

-- ---- one more range

read_of : (bytes part : List ℕ) (start end : ℕ) → start < end → end ≤ length bytes → length part ≡ end - start → part ≡ take (end - start) (drop start bytes) → IsOf bytes (record { start = start; bytes = part })
read_of bytes part start end some lies size same = record {
  within = subst (λ n. start + n ≤ length bytes) (sym size) (omega (arith, some, lies));
  same = same ∙ ap (λ n. take n (drop start bytes)) (sym size);
}

one_more : (bytes : List ℕ) (end : ℕ) (range : FetchedRange) (old new : List FetchedRange) → new ≡ old ++ range ∷ [] → length range.bytes.items ≡ end - range.start → range.bytes.items ≡ take (end - range.start) (drop range.start bytes) → (range.start < end) × (end ≤ length bytes) → All (IsOf bytes) (map fetched_piece old) → All (IsOf bytes) (map fetched_piece new)
one_more bytes end range old new pushed size same lies sound =
    let is : map fetched_piece new ≡ map fetched_piece old ++ fetched_piece range ∷ [] = ap (map fetched_piece) pushed ∙ map-append fetched_piece old (range ∷ []) in
    let all = All-push (IsOf bytes) (map fetched_piece old) (fetched_piece range) sound (read_of bytes range.bytes.items range.start end lies.0 lies.1 size same) in
    subst (All (IsOf bytes)) (sym is) all

pub more_read : (known : Option (List ℕ)) (end : ℕ) (range : FetchedRange) (old new : List FetchedRange) → new ≡ old ++ range ∷ [] → length range.bytes.items ≡ end - range.start → IfSome known (λ bytes. range.bytes.items ≡ take (end - range.start) (drop range.start bytes)) → IfSome known (λ bytes. (range.start < end) × (end ≤ length bytes) → All (IsOf bytes) (map fetched_piece old) → All (IsOf bytes) (map fetched_piece new))
more_read None end range old new pushed size same = tt
more_read (Some bytes) end range old new pushed size same = one_more bytes end range old new pushed size same

-- ---- the rounds

-- what was read so far is what the file has
abbrev pub AreRead : Option (List ℕ) → ℕ → List FetchedRange → Type 0
AreRead known size fetched = IfSome known (λ bytes. (size ≡ length bytes) × All (IsOf bytes) (map fetched_piece fetched))

pub none_read : (known : Option (List ℕ)) (size : ℕ) → IfSome known (λ bytes. size ≡ length bytes) → AreRead known size []
none_read None size is = tt
none_read (Some bytes) size is = (is, All-nil (IsOf bytes))

-- the source has not failed
pub same_failures : (known : Option (List ℕ)) (first before now : ℕ) → IfSome known (λ _. before ≡ first) → IfSome known (λ _. now ≡ before) → IfSome known (λ _. now ≡ first)
same_failures None first before now h k = tt
same_failures (Some bytes) first before now h k = k ∙ h

refused_of : (k : refusals.Kind) (before now : ℕ) (can_fail : Bool) (none : Type 0) → (none → ⊥) → IsRefused before now can_fail none k → IsRefused before now can_fail ⊥ k
refused_of refusals.Kind.SourceFailure before now can_fail none away h = h
refused_of refusals.Kind.AllocationFailure before now can_fail none away h = h
refused_of refusals.Kind.Refusal before now can_fail none away h = absurd (away h.1)

module _ (known : Option (List ℕ)) (kind : Kind) (size : ℕ) (old : List FetchedRange) (found : Result Candidate (ℕ × ℕ)) (answer : (bytes : List ℕ) → size ≡ length bytes → All (IsOf bytes) (map fetched_piece old) → IsAnswerOf kind bytes found) where
  pub last_round : (x : Candidate) → found ≡ Ok x → AreRead known size old → IfSome known (λ bytes. verdict kind (whole_file bytes) ≡ Ok x)
  last_round x is read = by known read
    where
      by : (known : Option (List ℕ)) → AreRead known size old → IfSome known (λ bytes. verdict kind (whole_file bytes) ≡ Ok x)
      by None read = tt
      by (Some bytes) read = subst (IsAnswerOf kind bytes) is (answer bytes read.0 read.1)

  pub next_round : (range : ℕ × ℕ) (new : List FetchedRange) → found ≡ Err range → IfSome known (λ bytes. (range.0 < range.1) × (range.1 ≤ length bytes) → All (IsOf bytes) (map fetched_piece old) → All (IsOf bytes) (map fetched_piece new)) → AreRead known size old → AreRead known size new
  next_round range new is step read = by known step read
    where
      by : (known : Option (List ℕ)) → IfSome known (λ bytes. (range.0 < range.1) × (range.1 ≤ length bytes) → All (IsOf bytes) (map fetched_piece old) → All (IsOf bytes) (map fetched_piece new)) → AreRead known size old → AreRead known size new
      by None step read = tt
      by (Some bytes) step read = (read.0, step (subst (IsAnswerOf kind bytes) is (answer bytes read.0 read.1)) read.1)

  -- a range that lies in the file is refused by the source alone
  pub round_refused : (range : ℕ × ℕ) → found ≡ Err range → (k : refusals.Kind) (first before now : ℕ) (can_fail same : Bool) → IfSome known (λ _. before ≡ first) → can_fail ≡ same → IfSome known (λ bytes. IsRefused before now can_fail (length bytes < range.1) k) → AreRead known size old → IfSome known (λ _. IsRefused first now same ⊥ k)
  round_refused range is k first before now can_fail same none nature refused read = by known none refused read
    where
      by : (known : Option (List ℕ)) → IfSome known (λ _. before ≡ first) → IfSome known (λ bytes. IsRefused before now can_fail (length bytes < range.1) k) → AreRead known size old → IfSome known (λ _. IsRefused first now same ⊥ k)
      by None none refused read = tt
      by (Some bytes) none refused read =
          let lies = subst (IsAnswerOf kind bytes) is (answer bytes read.0 read.1) in
          let past : length bytes < range.1 → ⊥ = λ less. omega (arith, lies.1, less) in
          subst (λ n. IsRefused n now same ⊥ k) none (subst (λ c. IsRefused before now c ⊥ k) nature (refused_of k before now can_fail (length bytes < range.1) past refused))
