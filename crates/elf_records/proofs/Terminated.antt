-- Strings that are compared without a search for their end.
use Rattle.std.proofs.Common.{◌≡◌, ℕ, ◌+◌, ◌-◌, ◌<◌, ◌≤◌, Bool, false, Option, Some, None, List, length, take, drop, get_or, refl, sym, ap, ◌∙◌, arith, inl, inr, MatchOption}
use Rattle.std.specs.Prelude.{◌==◌, position}
use Rattle.std.specs.Bool.{Decides}
use Rattle.std.specs.List.{position_or_len}
use Rattle.std.specs.Str.{bytes_eq}
use Rattle.std.proofs.lemmas.Grind.{common_steps}
use Rattle.std.proofs.lemmas.Bool.{cases_Bool, cases_lt}
use Rattle.std.proofs.lemmas.List.{get_or-drop, length-drop, length-take}
use Rattle.std.proofs.lemmas.List.Quantifiers.{position-Some}
use Rattle.std.proofs.lemmas.List.Sums.{fails_before_first}
use Rattle.std.proofs.lemmas.Slice.Eq.{bytes_eq-Decides}
use Rattle.elf_records.proofs.Nuls.{before_nul, none_in_group}
use Rattle.elf_records.specs.inner.Terminated.{IsTerminated, NoneFrom}

-- where none passes, each fails
none_found : (p : ℕ → Bool) (bytes : List ℕ) (k : ℕ) → position p bytes ≡ None → k < length bytes → p (get_or bytes k 0) ≡ false
none_found p bytes k none low =
    let far : length bytes ≤ position_or_len p bytes = grind (arith, common_steps) in
    fails_before_first p bytes k 0 (omega arith)

same_place : {n m : ℕ} → Some n ≡ Some m → n ≡ m
same_place e = cc e

-- whether the first 0 byte is after as many bytes as are asked for, and they are those, is whether they are equal
module _ (p : ℕ → Bool) (bytes asked : List ℕ) (r : Bool) (decides : Decides r ((position p bytes ≡ Some (length asked)) × (take (length asked) bytes ≡ asked))) where
  same_answer : (n : ℕ) → position p bytes ≡ Some n → r ≡ bytes_eq (take n bytes) asked
  same_answer n found = elim (cases_Bool (bytes_eq (take n bytes) asked)) [
    | inl hit ↦
        let at = position-Some p bytes n 0 found in
        let same = (bytes_eq-Decides (take n bytes) asked).0 hit in
        let all = ap (λ (xs : List ℕ). length xs) same in
        let short = length-take n bytes in
        let here : n ≡ length asked = omega arith in
        decides.1 (found ∙ ap Some here, rw here at same) ∙ sym hit
    | inr miss ↦ elim (cases_Bool r) [
      | inl named ↦
          let both = decides.0 named in
          let here = same_place (sym found ∙ both.0) in
          let hit = (bytes_eq-Decides (take n bytes) asked).1 (rw here both.1) in
          named ∙ sym hit
      | inr other ↦ other ∙ sym miss
    ]
  ]

  pub same_answer_for : (first : Option ℕ) → position p bytes ≡ first → (first ≡ None → ⊥) → MatchOption first ⊥ (λ n. r ≡ bytes_eq (take n bytes) asked)
  same_answer_for None found some = some refl
  same_answer_for (Some n) found some = same_answer n found

-- a 0 byte follows
pub follows : (bytes : List ℕ) (n o : ℕ) → IsTerminated bytes n → o < n → position (λ (byte : ℕ). byte == 0) (drop o bytes) ≡ None → ⊥
follows bytes n o terminated low none =
    let long = length-drop o bytes in
    let last = terminated.1 (omega arith) in
    let passed = none_found (λ (byte : ℕ). byte == 0) (drop o bytes) (n - 1 - o) none (omega arith) in
    let at = get_or-drop o bytes (n - 1 - o) 0 in
    let back : o + (n - 1 - o) ≡ n - 1 = omega arith in
    grind (arith, common_steps)

-- none does
module _ (bytes : List ℕ) (n o : ℕ) (terminated : IsTerminated bytes n) (behind : n ≤ o) where
  none_by : (first : Option ℕ) → position (λ (byte : ℕ). byte == 0) (drop o bytes) ≡ first → first ≡ None
  none_by None found = refl
  none_by (Some i) found =
      let there = position-Some (λ (byte : ℕ). byte == 0) (drop o bytes) i 0 found in
      let long = length-drop o bytes in
      let at = get_or-drop o bytes i 0 in
      let other = terminated.2 (o + i) (omega arith) (omega (arith, there.0)) in
      absurd (grind (arith, common_steps))

  pub none_follows : position (λ (byte : ℕ). byte == 0) (drop o bytes) ≡ None
  none_follows = none_by (position (λ (byte : ℕ). byte == 0) (drop o bytes)) refl

-- no 0 byte follows, starting at a group of bytes without one
pub none_from_group : (bytes : List ℕ) (end : ℕ) → 16 ≤ end → end ≤ length bytes → NoneFrom bytes end → before_nul bytes (end - 16) 16 ≡ 16 → NoneFrom bytes (end - 16)
none_from_group bytes end some low none all k from inside = elim (cases_lt k end) [
  | inl early ↦
      let other = none_in_group bytes (end - 16) 16 k from (omega (arith, all)) (omega arith) in
      λ nul. grind (arith, common_steps)
  | inr late ↦ none k (omega arith) inside
]
