-- The first 0 byte of a list, from how many bytes of a group come before one.
use Rattle.std.proofs.Common.{◌≡◌, ℕ, zero, suc, ◌+◌, ◌-◌, ◌<◌, ◌≤◌, Bool, true, false, not, Some, None, List, [], ◌∷◌, length, take, drop, get_or, sym, ap, ◌∙◌, subst, arith, inl, inr}
use Rattle.std.specs.Prelude.{position, ◌==◌}
use Rattle.std.specs.List.{position_or_len, prefix_len}
use Rattle.std.proofs.lemmas.Grind.{common_steps}
use Rattle.std.proofs.lemmas.Bool.{cases_lt, not-true, not-false}
use Rattle.std.proofs.lemmas.List.Sums.{position_or_len_is, prefix_len_passes, prefix_len_stops}
use Rattle.std.proofs.lemmas.List.{length-drop}
use Rattle.std.proofs.lemmas.Simd.{length-chunk, get_or-chunk}

abbrev pub is_nul : ℕ → Bool
is_nul byte = byte == 0

-- no byte before the place is 0
abbrev pub NoneBefore : List ℕ → ℕ → Type 0
NoneBefore bytes n = (k : ℕ) → k < n → is_nul (get_or bytes k 0) ≡ false

-- how many of the n bytes from start on come before the first 0 byte
abbrev pub before_nul : List ℕ → ℕ → ℕ → ℕ
before_nul bytes start n = prefix_len (λ byte. not (is_nul byte)) (take n (drop start bytes))

passed : (bytes : List ℕ) (n : ℕ) → n ≤ length bytes → NoneBefore bytes n → position_or_len is_nul bytes ≡ n + position_or_len is_nul (drop n bytes)
passed bytes zero low none = omega arith
passed [] (suc n) low none = absurd (omega arith)
passed (b ∷ bs) (suc n) low none = rw (none 0 (omega arith), passed bs n (omega arith) (λ k l. none (suc k) (omega arith))) (omega arith)

module _ (bytes : List ℕ) (n : ℕ) (low : n ≤ length bytes) (none : NoneBefore bytes n) where
  pub found_behind : (m : ℕ) → Some m ≡ position is_nul (drop n bytes) → Some (n + m) ≡ position is_nul bytes
  found_behind m e =
      let all = passed bytes n low none in
      let long = length-drop n bytes in
      grind (arith, common_steps)

  pub none_behind : None ≡ position is_nul (drop n bytes) → None ≡ position is_nul bytes
  none_behind e =
      let all = passed bytes n low none in
      let long = length-drop n bytes in
      grind (arith, common_steps)

-- none of the bytes that come before the first 0 byte of a group is 0
pub none_in_group : (bytes : List ℕ) (start n k : ℕ) → start ≤ k → k < start + before_nul bytes start n → k < start + n → is_nul (get_or bytes k 0) ≡ false
none_in_group bytes start n k from to inside =
    let back : start + (k - start) ≡ k = omega arith in
    let at = get_or-chunk start n bytes (k - start) 0 (omega arith) ∙ ap (λ (j : ℕ). get_or bytes j 0) back in
    subst (λ byte. is_nul byte ≡ false) at (not-true _ (prefix_len_passes (λ byte. not (is_nul byte)) (take n (drop start bytes)) (k - start) 0 (omega arith)))

module _ (bytes : List ℕ) (start n : ℕ) (room : start + n ≤ length bytes) (none : NoneBefore bytes start) where
  pub none_here : (m : ℕ) → m ≤ before_nul bytes start n → m ≤ n → NoneBefore bytes (start + m)
  none_here m few within k low = elim (cases_lt k start) [ inl early ↦ none k early | inr late ↦ none_in_group bytes start n k (omega arith) (omega arith) (omega arith) ]

  pub found_here : (m : ℕ) → m ≡ before_nul bytes start n → m < n → Some (start + m) ≡ position is_nul bytes
  found_here m e short =
      let long = length-chunk start n bytes room in
      let stop = not-false _ (prefix_len_stops (λ byte. not (is_nul byte)) (take n (drop start bytes)) 0 (omega (arith, e, long))) in
      let at = ap (λ (j : ℕ). get_or (take n (drop start bytes)) j 0) (sym e) ∙ get_or-chunk start n bytes m 0 short in
      let first = position_or_len_is is_nul bytes (start + m) 0 (omega arith) (none_here m (omega (arith, e)) (omega arith)) (λ _. subst (λ byte. is_nul byte ≡ true) at stop) in
      grind (arith, common_steps)
