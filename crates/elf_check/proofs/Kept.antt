-- Numbers of versions that are kept.
use Rattle.std.proofs.Common.{◌≡◌, ℕ, ◌<◌, List, length, get_or, replicate, set, refl, sym, subst, inl, inr, arith, length-set}
use Rattle.std.proofs.lemmas.Bool.{cases_lt}
use Rattle.std.proofs.lemmas.List.{get_or-replicate, get_or-set_other}
use Rattle.std.proofs.lemmas.Grind.{get_or-set_at}
use Rattle.elf_parts.specs.gnu_symver.Table.{Versions}
use Rattle.elf_parts.specs.declared.gnu_symver.records.VersionIndex.{VersionIndex}
use Rattle.elf_check.specs.versions.Indexes.{count_with_index}
use Rattle.elf_check.specs.inner.Kept.{AreSound}

abbrev IsSoundAt : Versions → ℕ → Type 0
IsSoundAt versions n = count_with_index versions (record { 0 = n }) ≡ 1

-- one more is kept
pub kept_more : (versions : Versions) (kept : List ℕ) (place : ℕ) (index : VersionIndex) → AreSound versions kept → place < length kept → count_with_index versions index ≡ 1 → AreSound versions (set kept place index.0)
kept_more versions kept place index sound inside is = λ k within.
    let long = length-set kept place index.0 in
    let here : k < length kept = omega (arith, within, long) in
    let other : (k ≡ place → ⊥) → IsSoundAt versions (get_or (set kept place index.0) k 0) = λ apart.
    subst (IsSoundAt versions) (sym (get_or-set_other kept place k index.0 0 apart)) (sound k here) in
    elim (cases_lt k place) [
      | inl less ↦ other (λ same. omega (arith, less, same))
      | inr most ↦ elim (cases_lt place k) [
        | inl more ↦ other (λ same. omega (arith, more, same))
        | inr least ↦
            let same : k ≡ place = omega (arith, most, least) in
            subst (IsSoundAt versions) (sym (get_or-set_at kept place k index.0 0 same inside)) is
      ]
    ]

-- 0 is that of a version
pub kept_none : (versions : Versions) (k : ℕ) → k < 64 → IsSoundAt versions (get_or (replicate 64 0) k 0)
kept_none versions k less = subst (IsSoundAt versions) (sym (get_or-replicate 64 k 0 0 less)) refl
