-- Whether a statement holds, found out. A decision is right by its type: it holds a proof of the statement, or one
-- that it does not hold. So a hash section is found sound or not, and how that is decided need not be read.
use Rattle.std.specs.Prelude.{◌≡◌, ℕ, zero, suc, ◌+◌, ◌%◌, ◌/◌, ◌^◌, ◌<◌, ◌≤◌, ◌⊎◌, length, Option, Some, None, refl}
use Rattle.std.specs.Option.{IsSomeAnd}
use Rattle.std.proofs.Common.{ap, subst, inl, inr, arith}
use Rattle.std.proofs.lemmas.Bool.{cases_lt}
use Rattle.std.proofs.lemmas.Grind.{common_steps}
use Rattle.elf_records.specs.Class.{address_bits}
use Rattle.elf_parts.specs.GnuFind.{GnuTable}
use Rattle.elf_parts.specs.Hash.{gnu_hash_of, sysv_hash_of, word_at, word_count}
use Rattle.elf_parts.specs.SysvFind.{SysvTable}
use Rattle.elf_records.specs.Table.{Table}
use Rattle.elf_hash_check.specs.Object.{ByGnu, BySysv, IsSound, Object}
use Rattle.elf_hash_check.specs.SoundGnu.{HasBothBits, InRun, RunsTo, SoundGnu, SoundWord}
use Rattle.elf_hash_check.specs.SoundSysv.{Belongs, EndsAt, SoundSysv, value}
use Rattle.elf_hash_check.specs.WithSymbols.{WithSymbols, bloom, symbol_and_name, word}
use Rattle.std.specs.Int.{bit_at}

-- ---- statements of any kind

abbrev pub Decided : Type 0 → Type 0
Decided P = P ⊎ (P → ⊥)

both : {P Q : Type 0} → Decided P → Decided Q → Decided (P × Q)
both (inl p) (inl q) = inl (p, q)
both (inl p) (inr other) = inr (λ h. other h.1)
both (inr other) q = inr (λ h. other h.0)

all_three : {P Q R : Type 0} → Decided P → Decided Q → Decided R → Decided (P × Q × R)
all_three (inl p) (inl q) (inl r) = inl (p, q, r)
all_three (inl p) (inl q) (inr other) = inr (λ h. other h.2)
all_three (inl p) (inr other) r = inr (λ h. other h.1)
all_three (inr other) q r = inr (λ h. other h.0)

where_so : {P Q : Type 0} → Decided P → Decided Q → Decided (P → Q)
where_so (inl p) (inl q) = inl (λ h. q)
where_so (inl p) (inr other) = inr (λ f. other (f p))
where_so (inr other) q = inl (λ h. absurd (other h))

alike : {P Q : Type 0} → (P → Q) → (Q → P) → Decided P → Decided Q
alike forth back (inl p) = inl (forth p)
alike forth back (inr other) = inr (λ q. other (back q))

pub less : (a b : ℕ) → Decided (a < b)
less a b = elim (cases_lt a b) [ inl h ↦ inl h | inr h ↦ inr (λ l. absurd (omega (arith, h, l))) ]

at_most : (a b : ℕ) → Decided (a ≤ b)
at_most a b = elim (cases_lt b a) [ inl h ↦ inr (λ l. absurd (omega (arith, h, l))) | inr h ↦ inl h ]

pub equal : (a b : ℕ) → Decided (a ≡ b)
equal a b =
    elim (cases_lt a b) [
      | inl h ↦ inr (λ e. absurd (omega (arith, h, e)))
      | inr h ↦ elim (cases_lt b a) [
        | inl l ↦ inr (λ e. absurd (omega (arith, l, e)))
        | inr l ↦ inl (omega (arith, h, l))
      ]
    ]

is_some_and : {A : Type 0} {P : A → Type 0} → ((x : A) → Decided (P x)) → (o : Option A) → Decided (IsSomeAnd o P)
is_some_and d (Some x) = d x
is_some_and d None = inr (λ h. absurd h)

if_some : {A : Type 0} {P : A → Type 0} → ((x : A) → Decided (P x)) → (o : Option A) →
    Decided ((x : A) → o ≡ Some x → P x)
if_some d None = inl (λ x e. cc)
if_some {P = P} d (Some y) = alike (λ p x e. subst P (cc) p) (λ f. f y refl) (d y)

is_number : (o : Option ℕ) (n : ℕ) → Decided (o ≡ Some n)
is_number None n = inr (λ e. cc)
is_number (Some m) n = alike (λ e. ap Some e) (λ e. cc) (equal m n)

one_more : {P : ℕ → Type 0} (n : ℕ) → Decided ((k : ℕ) → k < n → P k) → Decided (P n) →
    Decided ((k : ℕ) → k < suc n → P k)
one_more {P = P} n (inl all) (inl last) =
    inl (λ k h. elim (cases_lt k n) [ inl l ↦ all k l | inr l ↦ subst P (omega (arith, h, l)) last ])
one_more n (inl all) (inr other) = inr (λ f. other (f n (omega arith)))
one_more n (inr other) last = inr (λ f. other (λ k h. f k (omega (arith, h))))

below : {P : ℕ → Type 0} → ((k : ℕ) → Decided (P k)) → (n : ℕ) → Decided ((k : ℕ) → k < n → P k)
below d zero = inl (λ k h. absurd (omega (arith, h)))
below d (suc n) = one_more n (below d n) (d n)

or_last : {P : ℕ → Type 0} (n : ℕ) → Decided ((k : ℕ) × (k < n) × P k) → Decided (P n) →
    Decided ((k : ℕ) × (k < suc n) × P k)
or_last n (inl h) last = inl (h.0, omega (arith, h.1), h.2)
or_last n (inr other) (inl p) = inl (n, omega arith, p)
or_last {P = P} n (inr other) (inr none) =
    inr (λ h. elim (cases_lt h.0 n) [
      | inl l ↦ other (h.0, l, h.2)
      | inr l ↦ none (subst P (omega (arith, h.1, l)) h.2)
    ])

somewhere_below : {P : ℕ → Type 0} → ((k : ℕ) → Decided (P k)) → (n : ℕ) → Decided ((k : ℕ) × (k < n) × P k)
somewhere_below d zero = inr (λ h. absurd (omega (arith, h.1)))
somewhere_below d (suc n) = or_last n (somewhere_below d n) (d n)

-- ---- GNU sections

-- a word that can be read begins within the bytes
word_begins : (words : Table) (k w : ℕ) → word words k ≡ Some w → k < length words.bytes + 1
unfolding word word_at
word_begins words k w e = grind (arith, common_steps)

module _ (t : GnuTable) where
  pub has_both_bits : (hash : ℕ) → Decided (HasBothBits t hash)
  has_both_bits hash =
      both (less 0 t.hdr.nbloom)
      (is_some_and
      (λ w. both (equal (bit_at w (hash % address_bits t.bloom.class)) 1)
      (equal (bit_at w (hash / 2 ^ t.hdr.nshift % address_bits t.bloom.class)) 1))
      (bloom t.bloom (hash / address_bits t.bloom.class % t.hdr.nbloom)))

  runs_to : (k index : ℕ) → Decided (RunsTo t k index)
  runs_to k index =
      all_three (at_most t.hdr.table_start_idx index) (at_most index (t.hdr.table_start_idx + k))
      (alike (λ f j v from inside e. f j inside from v e) (λ f j inside from v e. f j v from inside e)
      (below
      (λ j. where_so (at_most index (t.hdr.table_start_idx + j)) (if_some (λ v. equal (v % 2) 0) (word t.chains j)))
      k))

  in_run : (k hash : ℕ) → Decided (InRun t k hash)
  in_run k hash =
      both (less 0 (word_count t.buckets))
      (is_some_and (runs_to k) (word t.buckets (hash % word_count t.buckets)))

module _ (s : WithSymbols GnuTable) where
  sound_word : (k w : ℕ) → Decided (SoundWord s k w)
  sound_word k w =
      is_some_and
      (λ found. all_three (equal (w / 2) (gnu_hash_of found.1 / 2)) (has_both_bits s.table (gnu_hash_of found.1))
      (in_run s.table k (gnu_hash_of found.1)))
      (symbol_and_name s.symbols s.strings (s.table.hdr.table_start_idx + k))

  pub decide_gnu : Decided (SoundGnu s)
  decide_gnu =
      both (less s.table.hdr.nshift 32)
      (alike (λ f k w e. f k (word_begins s.table.chains k w e) w e) (λ f k inside w e. f k w e)
      (below (λ k. if_some (λ w. sound_word k w) (word s.table.chains k)) (length s.table.chains.bytes + 1)))

-- ---- SysV sections

module _ (s : WithSymbols SysvTable) where
  belongs : (bucket index : ℕ) → Decided (Belongs s bucket index)
  belongs bucket index =
      both (less index (word_count s.table.chains))
      (is_some_and (λ found. equal (sysv_hash_of found.1 % word_count s.table.buckets) bucket)
      (symbol_and_name s.symbols s.strings index))

  ends_at : (bucket j : ℕ) → Decided (EndsAt s bucket j)
  ends_at bucket j =
      all_three (at_most j (word_count s.table.chains)) (is_number (value s.table bucket j) 0)
      (below (λ i. is_some_and (λ index. both (less 0 index) (belongs bucket index)) (value s.table bucket i)) j)

  pub decide_sysv : Decided (SoundSysv s)
  decide_sysv =
      below (λ bucket. alike (λ h. (h.0, h.2)) (λ h. (h.0, omega (arith, h.1.0), h.1))
      (somewhere_below (ends_at bucket) (word_count s.table.chains + 1))) (word_count s.table.buckets)

-- ---- sections of either kind

pub decide : (object : Object) → Decided (IsSound object)
decide (BySysv s) = decide_sysv s
decide (ByGnu s) = decide_gnu s
