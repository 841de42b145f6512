-- Ranges of memory that share no address: one of them decides whether a mapping meets any, and one more keeps them apart.
use Rattle.std.proofs.Common.{◌≡◌, ℕ, zero, suc, ◌+◌, ◌-◌, ◌^◌, ◌<◌, ◌≤◌, Bool, true, false, ◌||◌, ◌==◌, not, List, [], ◌∷◌, ◌++◌, length, refl, sym, ap, ◌∙◌, arith, subst, Some, inl, inr}
use Rattle.std.specs.Prelude.{cond, nat_lt, take, slice_get}
use Rattle.std.specs.List.{All, list_any, filter}
use Rattle.std.proofs.lemmas.List.{get_or_push, length_push}
use Rattle.std.proofs.lemmas.List.Elements.{filter_passes}
use Rattle.std.specs.BTreeMap.{insert_entry}
use Rattle.std.specs.Ordering.{nat_cmp, match_ordering, is_lt}
use Rattle.std.specs.declared.cmp.Ordering.TheVariants.{Less, Equal, Greater}
use Rattle.std.proofs.lemmas.Bool.{cases_lt, cond_both, true≢false}
use Rattle.std.proofs.lemmas.Bool.Decides.{nat_tests}
use Rattle.elf_tools.specs.declared.load_plan.Mapping.{Mapping}
use Rattle.elf_tools.specs.LoadPlan.{ApartBefore, meets, overlap}
use Rattle.elf_tools.specs.inner.Apart.{AreApart}

or_absorb : (a b : Bool) → (a ≡ true → b ≡ true) → (a || b) ≡ b
or_absorb true b h = sym (h refl)
or_absorb false b h = refl

or_swap : (a b c : Bool) → (a || (b || c)) ≡ (b || (a || c))
or_swap true true c = refl
or_swap true false c = refl
or_swap false true c = refl
or_swap false false c = refl

or_parts : (a b : Bool) → (a || b) ≡ false → (a ≡ false) × (b ≡ false)
or_parts false b h = (refl, h)
or_parts true b h = absurd (true≢false h)

or_none : (b : Bool) → (b || false) ≡ b
or_none true = refl
or_none false = refl

-- ---- a mapping of no bytes

pub overlap_none : (m n : Mapping) → n.memory_size ≡ 0 → overlap m n ≡ false
overlap_none m n none = grind (arith, nat_tests, none)

none_meets : (m : Mapping) → m.memory_size ≡ 0 → (r : ℕ × ℕ) → meets m r ≡ false
none_meets m none r = grind (arith, nat_tests, none)

pub none_meets_any : (m : Mapping) → m.memory_size ≡ 0 → (ranges : List (ℕ × ℕ)) → list_any (meets m) ranges ≡ false
none_meets_any m none [] = refl
none_meets_any m none (r ∷ rs) = ap (λ b. b || list_any (meets m) rs) (none_meets m none r) ∙ none_meets_any m none rs

-- ---- a look-up

earlier : (start end : ℕ) (ranges : List (ℕ × ℕ)) → start ≤ end → AreApart end ranges → AreApart start ranges
earlier start end [] le h = tt
earlier start end (r ∷ rs) le h = let here = h.0 in (omega (arith, here, le), h.1, h.2, h.3)

some_apart : (t : ℕ × ℕ → Bool) (start : ℕ) (ranges : List (ℕ × ℕ)) → AreApart start ranges → AreApart start (filter t ranges)
some_apart t start [] h = tt
some_apart t start (r ∷ rs) h =
    let rest = some_apart t (r.0 + r.1) rs h.3 in
    let here = h.0 in
    cond_both (t r) (r ∷ filter t rs) (filter t rs) (AreApart start)
    (λ _. (h.0, h.1, h.2, rest))
    (λ _. earlier start (r.0 + r.1) (filter t rs) (omega (arith, here)) rest)

begins_behind : (start : ℕ) (t : List (ℕ × ℕ)) (r : ℕ × ℕ) → AreApart start (t ++ r ∷ []) → (start ≤ r.0) × (0 < r.1)
begins_behind start [] r h = (h.0, h.2)
begins_behind start (f ∷ t) r h =
    let later = begins_behind (f.0 + f.1) t r h.3 in
    let here = h.0 in
    let there = later.0 in
    (omega (arith, here, there), later.1)

later_meets : (m : Mapping) (f r : ℕ × ℕ) → f.0 + f.1 ≤ r.0 → 0 < r.1 → r.0 < m.address + m.memory_size → meets m f ≡ true → meets m r ≡ true
later_meets m f r ends some begins h = grind (arith, nat_tests, ends, some, begins, h)

-- of ranges that begin before the mapping ends, the last one meets it if any does
last_meets : (m : Mapping) (start : ℕ) (t : List (ℕ × ℕ)) (r : ℕ × ℕ) → AreApart start (t ++ r ∷ []) → r.0 < m.address + m.memory_size → list_any (meets m) (t ++ r ∷ []) ≡ meets m r
last_meets m start [] r h begins = or_none (meets m r)
last_meets m start (f ∷ t) r h begins =
    let behind = begins_behind (f.0 + f.1) t r h.3 in
    ap (λ b. meets m f || b) (last_meets m (f.0 + f.1) t r h.3 begins)
    ∙ or_absorb (meets m f) (meets m r) (later_meets m f r behind.0 behind.1 begins)

less_test : (a b : Bool) → is_lt (cond a Less (cond b Equal Greater)) ≡ a
less_test true b = refl
less_test false true = refl
less_test false false = refl

-- the ranges up to an address
abbrev pub up_to : ℕ → List (ℕ × ℕ) → List (ℕ × ℕ)
up_to last ranges = filter (λ r. not (is_lt (nat_cmp last r.0))) ranges

outside : (m : Mapping) (n : ℕ) (size : ℕ) → m.address + m.memory_size ≤ n → meets m (n, size) ≡ false
outside m n size le = grind (arith, nat_tests, le)

-- a mapping, and an address before its end, after which no other address belongs to it
module _ (m : Mapping) (last : ℕ) (within : last < m.address + m.memory_size) (beyond : (n : ℕ) → n < 2 ^ 64 → last < n → m.address + m.memory_size ≤ n) where
  pub any_up_to : (start : ℕ) (ranges : List (ℕ × ℕ)) → AreApart start ranges → list_any (meets m) (up_to last ranges) ≡ list_any (meets m) ranges
  any_up_to start [] h = refl
  any_up_to start (r ∷ rs) h = one (nat_lt last r.0) (last == r.0) refl (any_up_to (r.0 + r.1) rs h.3) where
    one : (a b : Bool) → nat_lt last r.0 ≡ a → list_any (meets m) (up_to last rs) ≡ list_any (meets m) rs
        → list_any (meets m) (cond (not (is_lt (cond a Less (cond b Equal Greater)))) (r ∷ up_to last rs) (up_to last rs)) ≡ (meets m r || list_any (meets m) rs)
    one true b lt rest = rest ∙ sym (ap (λ x. x || list_any (meets m) rs) (outside m r.0 r.1 (beyond r.0 h.1 (grind (arith, nat_tests, lt)))))
    one false true lt rest = ap (λ x. meets m r || x) rest
    one false false lt rest = ap (λ x. meets m r || x) rest

  low : (t : List (ℕ × ℕ)) (r : ℕ × ℕ) (ranges : List (ℕ × ℕ)) → up_to last ranges ≡ t ++ r ∷ [] → r.0 ≤ last
  low t r ranges is =
      let passes : All (λ x. not (is_lt (nat_cmp last x.0)) ≡ true) (t ++ r ∷ []) = subst (All (λ x. not (is_lt (nat_cmp last x.0)) ≡ true)) is (filter_passes (λ x. not (is_lt (nat_cmp last x.0))) ranges) in
      let here = subst (λ x. not (is_lt (nat_cmp last x.0)) ≡ true) (get_or_push t r r (length t) refl) (passes (length t) r (omega (arith, length_push t r))) in
      let test : not (nat_lt last r.0) ≡ true = sym (ap not (less_test (nat_lt last r.0) (last == r.0))) ∙ here in
      grind (arith, nat_tests, test)

  decided : (ranges t : List (ℕ × ℕ)) (r : ℕ × ℕ) → AreApart 0 ranges → up_to last ranges ≡ t ++ r ∷ [] → list_any (meets m) ranges ≡ meets m r
  decided ranges t r apart is =
      let below = low t r ranges is in
      sym (any_up_to 0 ranges apart) ∙ ap (list_any (meets m)) is
      ∙ last_meets m 0 t r (subst (AreApart 0) is (some_apart (λ x. not (is_lt (nat_cmp last x.0))) 0 ranges apart)) (omega (arith, below, within))

  pub none_up_to : (ranges : List (ℕ × ℕ)) → AreApart 0 ranges → up_to last ranges ≡ [] → list_any (meets m) ranges ≡ false
  none_up_to ranges apart is = sym (any_up_to 0 ranges apart) ∙ ap (list_any (meets m)) is

  pub last_above : (ranges t : List (ℕ × ℕ)) (r : ℕ × ℕ) → AreApart 0 ranges → up_to last ranges ≡ t ++ r ∷ [] → m.address ≤ r.0 → list_any (meets m) ranges ≡ true
  last_above ranges t r apart is above =
      let below = low t r ranges is in
      let some = (begins_behind 0 t r (subst (AreApart 0) is (some_apart (λ x. not (is_lt (nat_cmp last x.0))) 0 ranges apart))).1 in
      decided ranges t r apart is ∙ grind (arith, nat_tests, below, within, some, above)

  pub last_below : (ranges t : List (ℕ × ℕ)) (r : ℕ × ℕ) → AreApart 0 ranges → up_to last ranges ≡ t ++ r ∷ [] → r.0 < m.address → 0 < m.memory_size → nat_lt (m.address - r.0) r.1 ≡ list_any (meets m) ranges
  last_below ranges t r apart is under full = same_test ∙ sym (decided ranges t r apart is) where
    same_test : nat_lt (m.address - r.0) r.1 ≡ meets m r
    same_test = grind (arith, nat_tests, under, full)

-- ---- one range more

module _ (m : Mapping) (some : 0 < m.memory_size) (bound : m.address < 2 ^ 64) where
  ends_before : (r : ℕ × ℕ) → 0 < r.1 → meets m r ≡ false → m.address < r.0 → m.address + m.memory_size ≤ r.0
  ends_before r full none below = grind (arith, nat_tests, full, none, below)

  begins_after : (r : ℕ × ℕ) → 0 < r.1 → meets m r ≡ false → nat_lt m.address r.0 ≡ false → r.0 + r.1 ≤ m.address
  begins_after r full none above = grind (arith, nat_tests, some, full, none, above)

  elsewhere : (r : ℕ × ℕ) → 0 < r.1 → meets m r ≡ false → (m.address == r.0) ≡ true → ⊥
  elsewhere r full none same = grind (arith, nat_tests, some, full, none, same)

  pub one_more_apart : (start : ℕ) (ranges : List (ℕ × ℕ)) → start ≤ m.address → AreApart start ranges → list_any (meets m) ranges ≡ false → AreApart start (insert_entry nat_cmp ranges m.address m.memory_size)
  one_more_apart start [] le apart none = (le, bound, some, tt)
  one_more_apart start (r ∷ rs) le apart none =
      let others = (or_parts (meets m r) (list_any (meets m) rs) none).1 in
      one (nat_lt m.address r.0) (m.address == r.0) refl refl (λ behind. one_more_apart (r.0 + r.1) rs behind apart.3 others) where
        parts : (meets m r ≡ false) × (list_any (meets m) rs ≡ false)
        parts = or_parts (meets m r) (list_any (meets m) rs) none

        one : (a b : Bool) → nat_lt m.address r.0 ≡ a → (m.address == r.0) ≡ b
            → (r.0 + r.1 ≤ m.address → AreApart (r.0 + r.1) (insert_entry nat_cmp rs m.address m.memory_size))
            → AreApart start (match_ordering (cond a Less (cond b Equal Greater)) ((m.address, m.memory_size) ∷ r ∷ rs) ((r.0, m.memory_size) ∷ rs) (r ∷ insert_entry nat_cmp rs m.address m.memory_size))
        one true b lt eq more = (le, bound, some, (ends_before r apart.2 parts.0 (grind (arith, nat_tests, lt)), apart.1, apart.2, apart.3))
        one false true lt eq more = absurd (elsewhere r apart.2 parts.0 eq)
        one false false lt eq more = (apart.0, apart.1, apart.2, more (begins_after r apart.2 parts.0 lt))

  pub any_of_one_more : (f : ℕ × ℕ → Bool) (start : ℕ) (ranges : List (ℕ × ℕ)) → AreApart start ranges → list_any (meets m) ranges ≡ false
      → list_any f (insert_entry nat_cmp ranges m.address m.memory_size) ≡ (f (m.address, m.memory_size) || list_any f ranges)
  any_of_one_more f start [] apart none = refl
  any_of_one_more f start (r ∷ rs) apart none =
      let others = (or_parts (meets m r) (list_any (meets m) rs) none).1 in
      one (nat_lt m.address r.0) (m.address == r.0) refl refl (any_of_one_more f (r.0 + r.1) rs apart.3 others) where
        one : (a b : Bool) → nat_lt m.address r.0 ≡ a → (m.address == r.0) ≡ b
            → list_any f (insert_entry nat_cmp rs m.address m.memory_size) ≡ (f (m.address, m.memory_size) || list_any f rs)
            → list_any f (match_ordering (cond a Less (cond b Equal Greater)) ((m.address, m.memory_size) ∷ r ∷ rs) ((r.0, m.memory_size) ∷ rs) (r ∷ insert_entry nat_cmp rs m.address m.memory_size))
            ≡ (f (m.address, m.memory_size) || (f r || list_any f rs))
        one true b lt eq more = refl
        one false true lt eq more = absurd (elsewhere r apart.2 (or_parts (meets m r) (list_any (meets m) rs) none).0 eq)
        one false false lt eq more = ap (λ x. f r || x) more ∙ or_swap (f r) (f (m.address, m.memory_size)) (list_any f rs)

-- ---- one mapping more

any_of_taken : {X : Type 0} (f : X → Bool) (xs : List X) (k : ℕ) (x : X) → slice_get xs k ≡ Some x → list_any f (take (suc k) xs) ≡ (f x || list_any f (take k xs))
any_of_taken f [] k x h = cc
any_of_taken f (y ∷ ys) zero x h = let same : y ≡ x = cc in ap (λ z. f z || false) same
any_of_taken f (y ∷ ys) (suc k) x h = ap (λ b. f y || b) (any_of_taken f ys k x h) ∙ or_swap (f y) (f x) (list_any f (take k ys))

pub any_of_next : {X : Type 0} (f : X → Bool) (xs : List X) (k : ℕ) (x : X) → slice_get xs k ≡ Some x → list_any f (take (k + 1) xs) ≡ (f x || list_any f (take k xs))
any_of_next f xs k x h = let next : k + 1 ≡ suc k = omega arith in ap (λ n. list_any f (take n xs)) next ∙ any_of_taken f xs k x h

pub one_more_before : (all : List Mapping) (place : ℕ) (m : Mapping) → slice_get all place ≡ Some m → list_any (overlap m) (take place all) ≡ false → ApartBefore all place → ApartBefore all (place + 1)
one_more_before all place m there none before k lt = elim (cases_lt k place) [
  | inl below ↦ before k below
  | inr above ↦ let same : k ≡ place = omega (arith, lt, above) in rw (same, there) none
]
