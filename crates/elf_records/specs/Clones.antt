-- What a clone is.
use Rattle.std.specs.Prelude.{◌≡◌}

-- a clone is the same value, and cloning does not fail
abbrev pub ClonesExactly : {A : Type 0} → (A → A → Type 0) → (A → Type 0) → Type 0
ClonesExactly {A = A} is_clone is_infallible = ((x y : A) → is_clone x y → y ≡ x) × ((x : A) → is_infallible x)
