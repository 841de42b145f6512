-- The numbers of an interval, as a list.
use Rattle.std.proofs.Common.{◌≡◌, ℕ, ◌+◌, ◌-◌, ◌<◌, ◌≤◌, zero, suc, List, [], ◌∷◌, length, get_or, refl, ap, sym, ◌∙◌, arith}
use Rattle.std.specs.List.{Contains}
use Rattle.elf_hash_check.specs.Indexed.{IsNumberOf}

-- f a, f (a + 1) and so on, n of them
pub listing : (ℕ → ℕ) → ℕ → ℕ → List ℕ
listing f a zero = []
listing f a (suc n) = f a ∷ listing f (a + 1) n

pub length-listing : (f : ℕ → ℕ) (a n : ℕ) → length (listing f a n) ≡ n
unfolding listing
length-listing f a zero = refl
length-listing f a (suc n) = ap suc (length-listing f (a + 1) n)

pub get_or-listing : (f : ℕ → ℕ) (a n k d : ℕ) → k < n → get_or (listing f a n) k d ≡ f (a + k)
unfolding listing
get_or-listing f a zero k d h = absurd (omega arith)
get_or-listing f a (suc n) zero d h = let at : a ≡ a + 0 = omega arith in ap f at
get_or-listing f a (suc n) (suc k) d h = let at : a + 1 + k ≡ a + suc k = omega arith in get_or-listing f (a + 1) n k d (omega arith) ∙ ap f at

-- the numbers from a on, n of them
pub interval : ℕ → ℕ → List ℕ
interval a n = listing (λ i. i) a n

pub length-interval : (a n : ℕ) → length (interval a n) ≡ n
unfolding interval
length-interval a n = length-listing (λ i. i) a n

pub get_or-interval : (a n k d : ℕ) → k < n → get_or (interval a n) k d ≡ a + k
unfolding interval
get_or-interval a n k d h = get_or-listing (λ i. i) a n k d h

pub number_of_interval : (a n : ℕ) → IsNumberOf n (λ i. (a ≤ i) × (i < a + n))
number_of_interval a n =
    let size = length-interval a n in
    record {
      members = interval a n;
      all = λ i.
          let forth : Contains (interval a n) i → (a ≤ i) × (i < a + n) =
          λ h. let e = get_or-interval a n h.0 i (omega (arith, h.1, size)) in (omega (arith, e, h.2), omega (arith, e, h.2, h.1, size)) in
          let back : (a ≤ i) × (i < a + n) → Contains (interval a n) i =
          λ h. (i - a, omega (arith, h.0, h.1, size), get_or-interval a n (i - a) i (omega (arith, h.0, h.1)) ∙ omega (arith, h.0)) in
          (forth, back);
      apart = λ j k less below same.
          let x = get_or-interval a n j 0 (omega (arith, size)) in
          let y = get_or-interval a n k 0 (omega (arith, size)) in
          omega (arith, x, y, same, less);
      count = sym size;
    }
