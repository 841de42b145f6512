-- What is so of files that are known, if they are.
use Rattle.std.proofs.Common.{◌≡◌, ◌∙◌, ℕ, ◌+◌, ◌<◌, ◌≤◌, IfSome, List, [], ◌∷◌, ◌++◌, Option, Some, None, ap, append_assoc, append-nil, drop, get_or, length, map, refl, sym}
use Rattle.std.proofs.lemmas.List.{drop_all, drop_more}
use Rattle.std.specs.List.{flat_map}

module _ {A : Type 0} where
  pub known_all : (known : Option A) (P : A → Type 0) → ((a : A) → P a) → IfSome known P
  known_all None P all = tt
  known_all (Some a) P all = all a

  pub known_so : (known : Option A) (P Q : A → Type 0) → ((a : A) → P a → Q a) → IfSome known P → IfSome known Q
  known_so None P Q step h = tt
  known_so (Some a) P Q step h = step a h

  pub known_both : (known : Option A) (P Q R : A → Type 0) → ((a : A) → P a → Q a → R a) → IfSome known P → IfSome known Q → IfSome known R
  known_both None P Q R step h k = tt
  known_both (Some a) P Q R step h k = step a h k

-- what was said of the items of a list so far, and then what is said of those that are left, is the whole
module _ {A B C S : Type 0} (known : Option A) (f : A → B → List S) (view : C → B) (given : List C) where
  abbrev pub all_of : A → List S
  all_of a = flat_map (f a) (map view given)

  abbrev pub AreLeft : ℕ → List S → A → Type 0
  AreLeft k so_far a = so_far ++ flat_map (f a) (map view (drop k given)) ≡ all_of a

  pub none_said : IfSome known (AreLeft 0 [])
  none_said = known_all known (AreLeft 0 []) (λ a. refl)

  more : (k : ℕ) (x : C) (so_far one : List S) → k < length given → x ≡ get_or given k x → (a : A) → AreLeft k so_far a → one ≡ f a (view x) → AreLeft (k + 1) (so_far ++ one) a
  more k x so_far one less is a before here =
      let rest = flat_map (f a) (map view (drop (k + 1) given)) in
      let next : drop k given ≡ x ∷ drop (k + 1) given = drop_more given k x less ∙ ap (λ (y : C). y ∷ drop (k + 1) given) (sym is) in
      append_assoc so_far one rest ∙ ap (λ (l : List S). so_far ++ (l ++ rest)) here
      ∙ ap (λ (l : List C). so_far ++ flat_map (f a) (map view l)) (sym next) ∙ before

  pub one_more : (k : ℕ) (x : C) (so_far one : List S) → k < length given → x ≡ get_or given k x → IfSome known (AreLeft k so_far) → IfSome known (λ a. one ≡ f a (view x)) → IfSome known (AreLeft (k + 1) (so_far ++ one))
  one_more k x so_far one less is = known_both known (AreLeft k so_far) (λ a. one ≡ f a (view x)) (AreLeft (k + 1) (so_far ++ one)) (more k x so_far one less is)

  pub none_left : (k : ℕ) (so_far : List S) → length given ≤ k → IfSome known (AreLeft k so_far) → IfSome known (λ a. so_far ≡ all_of a)
  none_left k so_far past = known_so known (AreLeft k so_far) (λ a. so_far ≡ all_of a) (λ a before.
      sym (append-nil so_far) ∙ ap (λ (l : List C). so_far ++ flat_map (f a) (map view l)) (sym (drop_all k given past)) ∙ before)
