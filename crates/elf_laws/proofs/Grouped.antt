-- The words of hashes that lie bucket by bucket.
use Rattle.std.proofs.Common.{◌≡◌, ℕ, ◌+◌, ◌/◌, ◌%◌, ◌^◌, ◌<◌, ◌≤◌, zero, suc, true, false, eqb, List, [], ◌∷◌, length, get_or, refl, sym, ◌∙◌, inl, inr, arith}
use Rattle.std.specs.Prelude.{bit_or, slice_index, ◌==◌}
use Rattle.std.specs.Int.{bit_at}
use Rattle.std.proofs.lemmas.Bool.{cases_Bool, cases_lt, eqb-true}
use Rattle.std.proofs.lemmas.Bool.Decides.{Decides-eqb}
use Rattle.std.proofs.lemmas.Grind.{common_steps}
use Rattle.std.proofs.lemmas.List.Sums.{fails_before_first, passes_at_first}
use Rattle.std.proofs.lemmas.Nat.Bits.{bit_at-lt, bit_at-pow_same, bit_at_or}
use Rattle.elf_laws.proofs.PutIn.{same_test}
use Rattle.elf_laws.specs.Built.{AreGrouped, bloom_of_all, both_bits, bucket_word, ends_bucket, first_in, gnu_bucket, run_word}

-- ---- the bloom words

set_left : (a b p : ℕ) → bit_at a p ≡ 1 → bit_at (bit_or a b) p ≡ 1
set_left a b p e = omega (arith, bit_at_or a b p, bit_at-lt b p, e)

set_right : (a b p : ℕ) → bit_at b p ≡ 1 → bit_at (bit_or a b) p ≡ 1
set_right a b p e = omega (arith, bit_at_or a b p, bit_at-lt a p, e)

module _ (bits nbloom shift : ℕ) where
  -- both bits of a hash are set in a word
  abbrev pub AreSet : ℕ → ℕ → Type 0
  AreSet hash w = (bit_at w (hash % bits) ≡ 1) × (bit_at w (hash / 2 ^ shift % bits) ≡ 1)

  own_bits : (hash : ℕ) → AreSet hash (both_bits bits nbloom shift hash)
  own_bits hash =
      let a = hash % bits in
      let b = hash / 2 ^ shift % bits in
      (set_left (2 ^ a) (2 ^ b) a (bit_at-pow_same a), set_right (2 ^ a) (2 ^ b) b (bit_at-pow_same b))

  -- in the bloom word of a hash its bits are set
  pub bits_set : (hashes : List ℕ) (k : ℕ) → k < length hashes →
      AreSet (get_or hashes k 0) (bloom_of_all bits nbloom shift hashes (get_or hashes k 0 / bits % nbloom))
  bits_set [] k below = absurd (omega (arith, below))
  bits_set (hash ∷ hashes) zero below =
      let own = own_bits hash in
      let two = both_bits bits nbloom shift hash in
      let rest = bloom_of_all bits nbloom shift hashes (hash / bits % nbloom) in
      let here = same_test (hash / bits % nbloom) in
      rw here (set_left two rest (hash % bits) own.0, set_left two rest (hash / 2 ^ shift % bits) own.1)
  bits_set (hash ∷ hashes) (suc k) below =
      let h = get_or hashes k 0 in
      let later = bits_set hashes k (omega (arith, below)) in
      let two = both_bits bits nbloom shift hash in
      let rest = bloom_of_all bits nbloom shift hashes (h / bits % nbloom) in
      elim (cases_Bool (eqb (hash / bits % nbloom) (h / bits % nbloom))) [
        | inl same ↦
            rw same (set_right two rest (h % bits) later.0, set_right two rest (h / 2 ^ shift % bits) later.1)
        | inr other ↦ rw other later
      ]

-- ---- the buckets and the chain words

module _ (nbucket : ℕ) (hashes : List ℕ) where
  pub half_of_run_word : (k : ℕ) → run_word nbucket hashes k / 2 ≡ slice_index hashes k / 2
  half_of_run_word k = elim (cases_Bool (ends_bucket nbucket hashes k)) [
    | inl last ↦ rw last (omega arith)
    | inr more ↦ rw more (omega arith)
  ]

  -- a hash with another one of its bucket after it does not end the run
  inner_even : (j : ℕ) → j + 1 < length hashes → gnu_bucket nbucket hashes (j + 1) ≡ gnu_bucket nbucket hashes j →
      run_word nbucket hashes j % 2 ≡ 0
  inner_even j below same =
      let far : eqb (j + 1) (length hashes) ≡ false = grind (arith, common_steps) in
      let near : eqb (gnu_bucket nbucket hashes (j + 1)) (gnu_bucket nbucket hashes j) ≡ true =
      (Decides-eqb (gnu_bucket nbucket hashes (j + 1)) (gnu_bucket nbucket hashes j)).1 same in
      rw (far, near) (omega arith)

  -- the word of a bucket leads to a hash that comes no later than this one of the bucket, and no run ends between them
  pub record Leads (k : ℕ) : Type 0 where
    pub from : ℕ
    pub word : (first : ℕ) → bucket_word nbucket hashes first (gnu_bucket nbucket hashes k) ≡ first + from
    pub up_to : from ≤ k
    pub even : (j : ℕ) → from ≤ j → j < k → run_word nbucket hashes j % 2 ≡ 0

  pub leads : AreGrouped nbucket hashes → (k : ℕ) → k < length hashes → Leads k
  leads grouped k below =
      let b = gnu_bucket nbucket hashes k in
      let f = first_in nbucket hashes b in
      let up_to : f ≤ k = elim (cases_lt k f) [
        | inl before ↦
            let other : eqb b b ≡ false = fails_before_first (λ hash. hash % nbucket == b) hashes k 0 before in
            absurd (let no : true ≡ false = sym (same_test b) ∙ other in cc no)
        | inr reached ↦ omega (arith, reached)
      ] in
      let passes : eqb (gnu_bucket nbucket hashes f) b ≡ true =
      passes_at_first (λ hash. hash % nbucket == b) hashes 0 (omega (arith, up_to, below)) in
      let same : gnu_bucket nbucket hashes f ≡ b = eqb-true (gnu_bucket nbucket hashes f) b passes in
      let there : eqb f (length hashes) ≡ false = grind (arith, common_steps) in
      record {
        from = f;
        word = λ first. rw there refl;
        up_to = up_to;
        even = λ j at to.
            let here = grouped f j k at (omega (arith, to)) below same in
            let next = grouped f (j + 1) k (omega (arith, at)) (omega (arith, to)) below same in
            inner_even j (omega (arith, to, below)) (next ∙ sym here);
      }
