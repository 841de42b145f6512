-- Places that are filled with the first entry of each version index, step by step along a list.
use Rattle.std.proofs.Common.{◌≡◌, Bool, Some, None, Option, List, ◌∷◌, if◌then◌else◌, refl, ap, arith}
use Rattle.std.specs.List.{find}
use Rattle.std.specs.Option.{option_map, option_or}
use Rattle.std.proofs.lemmas.Grind.{common_steps}

-- after the entry at the front was put in, what a place holds, or else what the entries after it have for it, is what it
-- was before
pub found_front : {A P : Type 0} (f : A → P) (p : A → Bool) (old new : Option P) (x : A) (xs : List A) →
    new ≡ option_or old (if p x then Some (f x) else None) →
    option_or new (option_map f (find p xs)) ≡ option_or old (option_map f (find p (x ∷ xs)))
found_front f p (Some held) new x xs e = ap (λ n. option_or n (option_map f (find p xs))) e
found_front f p None new x xs e = by (p x) refl
  where
    by : (b : Bool) → p x ≡ b →
        option_or new (option_map f (find p xs)) ≡ option_map f (find p (x ∷ xs))
    by b is = grind (arith, common_steps)

-- where nothing is left, it is what the place holds
pub nothing_left : {P : Type 0} (held : Option P) → option_or held None ≡ held
nothing_left None = refl
nothing_left (Some x) = refl
