-- Text that is written into a place piece by piece.
use Rattle.std.proofs.Common.{◌≡◌, ℕ, List, [], ◌∷◌, ◌++◌, length, set, refl, ap, ◌∙◌, arith}
use Rattle.std.proofs.lemmas.List.{append_assoc, length-append}
use Rattle.elf_c.specs.Texts.{over}
use Rattle.elf_c.specs.inner.Writing.{IsWritten}

-- one byte more
pub over_more : (text place : List ℕ) (byte : ℕ) → over (text ++ byte ∷ []) place ≡ set (over text place) (length text) byte
over_more [] [] byte = refl
over_more [] (old ∷ place) byte = refl
over_more (one ∷ text) [] byte = refl
over_more (one ∷ text) (old ∷ place) byte = ap (λ (rest : List ℕ). one ∷ rest) (over_more text place byte)

-- a piece and the next one
pub and_then : {index middle end : ℕ} {first second old between new : List ℕ} →
    IsWritten index first old between middle → IsWritten middle second between new end →
    IsWritten index (first ++ second) old new end
and_then {index} {middle} {end} {first} {second} one two = (
  omega (arith, one.0, two.0, length-append first second),
  λ text place long is.
      let more : length (text ++ first) ≡ middle = omega (arith, long, one.0, length-append text first) in
      two.1 (text ++ first) place more (one.1 text place long is)
      ∙ ap (λ (all : List ℕ). over all place) (append_assoc text first second),
)

-- all pieces
pub whole : {text old new : List ℕ} {end : ℕ} → IsWritten 0 text old new end → (end ≡ length text) × (new ≡ over text old)
whole {text} {old} written = (omega (arith, written.0), written.1 [] old refl refl)
