-- The texts of the flags of a segment.
use Rattle.std.proofs.Common.{◌≡◌, ℕ, zero, suc, ◌<◌, ◌≤◌, ◌++◌, ◌==◌, List, Some, None, nat_eq, bit_and, codes, if◌then◌else◌, refl, arith}
use Rattle.std.proofs.lemmas.Bool.Decides.{nat_tests}
use Rattle.elf_abi.specs.Names.{name_of}
use Rattle.elf_abi.specs.SegmentNames.{p_flags_names}

abbrev letter : ℕ → ℕ → List ℕ → List ℕ
letter flags flag text = if bit_and flags flag == 0 then codes " " else text

-- below 8 the name is the three letters
pub letters_named : (flags : ℕ) → flags < 8 → name_of nat_eq p_flags_names flags ≡ Some (letter flags 4 (codes "R") ++ letter flags 2 (codes "W") ++ letter flags 1 (codes "E"))
unfolding name_of
letters_named zero lt = refl
letters_named (suc zero) lt = refl
letters_named (suc (suc zero)) lt = refl
letters_named (suc (suc (suc zero))) lt = refl
letters_named (suc (suc (suc (suc zero)))) lt = refl
letters_named (suc (suc (suc (suc (suc zero))))) lt = refl
letters_named (suc (suc (suc (suc (suc (suc zero)))))) lt = refl
letters_named (suc (suc (suc (suc (suc (suc (suc zero))))))) lt = refl
letters_named (suc (suc (suc (suc (suc (suc (suc (suc n)))))))) lt = absurd (omega arith)

-- from 8 on there is no name
pub others_unnamed : (flags : ℕ) → 8 ≤ flags → name_of nat_eq p_flags_names flags ≡ None
unfolding name_of
others_unnamed flags le = grind (arith, nat_tests)
