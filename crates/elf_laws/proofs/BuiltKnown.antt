-- The small sound sections were built as linkers build them.
use Rattle.std.proofs.Common.{◌≡◌, ◌≢◌, ℕ, zero, suc, ◌+◌, ◌/◌, ◌<◌, List, Some, refl, lit≤, arith}
use Rattle.std.specs.Prelude.{slice_index_or}
use Rattle.std.specs.List.{All, AllPairs}
use Rattle.elf_parts.specs.GnuFind.{GnuTable}
use Rattle.elf_parts.specs.SysvFind.{SysvTable}
use Rattle.elf_hash_check.specs.WithSymbols.{WithSymbols, bloom, name_at, word}
use Rattle.elf_laws.proofs.Below.{below_one, below_three, below_two}
use Rattle.elf_laws.proofs.KnownBytes.{known_bytes}
use Rattle.elf_laws.specs.Built.{AreGrouped, HasGnuWords, HasSysvWords, IsBuiltGnu, IsBuiltSysv, bloom_of_all, bucket_after, bucket_word, chain_after, gnu_bucket, gnu_hashes, name_in, run_word, sysv_bucket}
use Rattle.elf_laws.specs.BuiltSections.{gnu_built_names, sysv_built_names, sysv_built_order}
use Rattle.elf_laws.specs.Files.{in_four}
use Rattle.elf_laws.specs.SoundSections.{gnu_with, sysv_with}

-- ---- SysV

abbrev sysv_one : WithSymbols SysvTable
sysv_one = sysv_with 8 (in_four 0)

below_four : (P : ℕ → Type 0) → P 0 → P 1 → P 2 → P 3 → (i : ℕ) → i < 4 → P i
below_four P p q r s zero h = p
below_four P p q r s (suc i) h = below_three (λ k. P (suc k)) q r s i (omega (arith, h))

-- what holds of the three symbols holds of all that were put in
all_put : (P : ℕ → Type 0) → P 1 → P 2 → P 3 → All P sysv_built_order
all_put P p q r k d h = below_three (λ i. P (slice_index_or sysv_built_order i d)) p q r k h

put_once : AllPairs (λ i j. i ≢ j) sysv_built_order
put_once i j d less below same =
    let at = below_three (λ k. slice_index_or sysv_built_order k d ≡ k + 1) refl refl refl in
    omega (arith, less, below, same, at i (omega (arith, less, below)), at j below)

sysv_words : HasSysvWords sysv_built_names sysv_built_order sysv_one.table
unfolding known_bytes
sysv_words =
    let of : ℕ → ℕ = sysv_bucket 2 sysv_built_names in
    let B : ℕ → Type 0 = λ i. word sysv_one.table.buckets i ≡ Some (bucket_after of sysv_built_order i) in
    let C : ℕ → Type 0 = λ i. word sysv_one.table.chains i ≡ Some (chain_after of sysv_built_order i) in
    ((refl, below_two B refl refl), (refl, below_four C refl refl refl refl))

-- the name of a symbol is the one of the list
abbrev HasItsName : ℕ → Type 0
HasItsName index = name_at sysv_one.symbols sysv_one.strings index ≡ Some (name_in sysv_built_names index)

sysv_named : All HasItsName sysv_built_order
unfolding known_bytes
sysv_named = all_put HasItsName refl refl refl

pub sysv_built : IsBuiltSysv sysv_built_names sysv_built_order sysv_one
sysv_built = (
  sysv_words,
  record {
    some_bucket = lit≤ tt;
    there = all_put (λ index. (0 < index) × (index < 4)) (lit≤ tt, lit≤ tt) (lit≤ tt, lit≤ tt) (lit≤ tt, lit≤ tt);
    once = put_once;
    named = sysv_named;
  },
)

-- ---- GNU

abbrev gnu_one : WithSymbols GnuTable
gnu_one = gnu_with 3 5 0xc0 0x06 0x09

gnu_words : HasGnuWords (gnu_hashes gnu_built_names) gnu_one.table
unfolding known_bytes
gnu_words =
    let hashes : List ℕ = gnu_hashes gnu_built_names in
    let F : ℕ → Type 0 = λ i. bloom gnu_one.table.bloom i ≡ Some (bloom_of_all 32 1 5 hashes i) in
    let B : ℕ → Type 0 = λ i. word gnu_one.table.buckets i ≡ Some (bucket_word 2 hashes 1 i) in
    let C : ℕ → Type 0 = λ i. word gnu_one.table.chains i ≡ Some (run_word 2 hashes i) in
    let buckets = below_two B refl refl in
    let chains = below_three C refl refl refl in
    record { bloom = below_one F refl; buckets = (refl, buckets); chains = (refl, chains) }

-- the buckets of the hashes are 0, 0 and 1
bucket_is : (k : ℕ) → k < 3 → gnu_bucket 2 (gnu_hashes gnu_built_names) k ≡ k / 2
unfolding known_bytes
bucket_is = below_three (λ k. gnu_bucket 2 (gnu_hashes gnu_built_names) k ≡ k / 2) refl refl refl

gnu_grouped : AreGrouped 2 (gnu_hashes gnu_built_names)
gnu_grouped i j k a b c e =
    let at_i = bucket_is i (omega (arith, a, b, c)) in
    let at_j = bucket_is j (omega (arith, b, c)) in
    omega (arith, a, b, e, at_i, at_j, bucket_is k c)

gnu_named : (k : ℕ) → k < 3 → name_at gnu_one.symbols gnu_one.strings (1 + k) ≡ Some (name_in gnu_built_names k)
unfolding known_bytes
gnu_named =
    let P : ℕ → Type 0 = λ k. name_at gnu_one.symbols gnu_one.strings (1 + k) ≡ Some (name_in gnu_built_names k) in
    below_three P refl refl refl

pub gnu_built : IsBuiltGnu gnu_built_names gnu_one
gnu_built = (
  gnu_words,
  record {
    some_bucket = lit≤ tt;
    some_bloom = lit≤ tt;
    shift = lit≤ tt;
    grouped = gnu_grouped;
    named = gnu_named;
  },
)

-- both
pub ruleset small_built = (sysv_built, gnu_built)
