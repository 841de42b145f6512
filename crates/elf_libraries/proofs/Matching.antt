-- What is left of a name after a pattern, one byte of the pattern more at a time.
use Rattle.std.proofs.Common.{◌≡◌, ℕ, zero, suc, ◌-◌, ◌<◌, List, [], ◌∷◌, length, refl, sym, ap, arith, get_or, drop}
use Rattle.elf_libraries.specs.Patterns.{after, first_by, rests_after}

pub skips_first : (pattern : List ℕ) (skip : ℕ) (rests : List (List ℕ)) → 0 < length pattern → 0 < skip → rests_after skip pattern rests ≡ rests_after (skip - 1) (drop 1 pattern) rests
skips_first [] skip rests some left = absurd (omega (arith, some))
skips_first (b ∷ pattern) zero rests some left = absurd (omega (arith, left))
skips_first (b ∷ pattern) (suc n) rests some left = let same : suc n - 1 ≡ n = omega arith in ap (λ k. rests_after k pattern rests) (sym same)

pub takes_first : (pattern : List ℕ) (d : ℕ) (rests : List (List ℕ)) → 0 < length pattern
    → rests_after 0 pattern rests ≡ rests_after ((first_by (get_or pattern 0 d) pattern).length - 1) (drop 1 pattern) (after (first_by (get_or pattern 0 d) pattern).element rests)
takes_first [] d rests some = absurd (omega (arith, some))
takes_first (b ∷ pattern) d rests some = refl
