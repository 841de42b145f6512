-- Equality of values.
use Rattle.std.specs.Prelude.{◌≡◌, ◌↔◌, Bool, IsTrue}

-- two values are equal exactly if they are the same value
abbrev pub EqualExactly : {A : Type 0} → (A → A → Bool) → Type 0
EqualExactly {A = A} eq = (a b : A) → IsTrue (eq a b) ↔ (a ≡ b)
