-- The texts of several things, in order: of each one for the writer of listings, and one for that of problems.
use Rattle.std.specs.Prelude.{◌≡◌, ℕ, ◌++◌, Bool, true, false, List, [], ◌∷◌, Option}
use Rattle.std.specs.Io.KnownBytes.{Appends}

-- what the writer of listings and that of problems have
pub record Written : Type 0 where
  pub out : Option (List ℕ)
  pub err : Option (List ℕ)

-- the texts of each
abbrev pub AreTexts : {A : Type 0} → (A → List ℕ → List ℕ → Type 0) → List A → List ℕ → List ℕ → Type 0
AreTexts AreOf [] out err = (out ≡ []) × (err ≡ [])
AreTexts AreOf (x ∷ xs) out err =
    (own : List ℕ) × (told : List ℕ) × (others : List ℕ) × (rest : List ℕ)
    × AreOf x own told × AreTexts AreOf xs others rest × (out ≡ own ++ others) × (err ≡ told ++ rest)

-- The writers got exactly the texts of each more: that of listings unless a write failed, and that of problems if all
-- were told.
abbrev pub AreAppended : {A : Type 0} → (A → List ℕ → List ℕ → Type 0) → Bool → Bool → Written → Written → List A → Type 0
AreAppended AreOf is_lost is_told before after xs =
    (out : List ℕ) × (err : List ℕ) × AreTexts AreOf xs out err
    × (is_lost ≡ false → Appends before.out after.out out) × (is_told ≡ true → Appends before.err after.err err)
