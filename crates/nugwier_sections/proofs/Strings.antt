-- The strings of a section, one byte more at a time.
use Rattle.std.proofs.Common.{◌≡◌, ℕ, suc, ◌+◌, ◌-◌, ◌≤◌, ◌<◌, ◌==◌, false, List, [], ◌∷◌, ◌++◌, drop, take, length, get_or, ap, sym, ◌∙◌, subst, arith, length-take-le, take-add}
use Rattle.std.proofs.lemmas.Bool.{ne_eqb}
use Rattle.std.proofs.lemmas.List.{drop-drop, length-drop}
use Rattle.std.proofs.Math.Seq.{drop-cons}
use Rattle.nugwier_sections.specs.ContentRows.{string_said, strings_from}
use Rattle.nugwier_report.specs.Said.{Said, saying}
use Rattle.nugwier_report.proofs.Saying.{saying_both}

next_byte : (place : ℕ) (all : List ℕ) → place < length all → drop place all ≡ get_or all place 0 ∷ drop (place + 1) all
next_byte place all in_all =
    let next : suc place ≡ place + 1 = omega arith in
    drop-cons all place 0 in_all ∙ ap (λ n. get_or all place 0 ∷ drop n all) next

-- the bytes of the string so far are as many as are between
length_between : (start place : ℕ) (all : List ℕ) → start ≤ place → place < length all → length (take (place - start) (drop start all)) ≡ place - start
length_between start place all h in_all =
    let left = length-drop start all in
    length-take-le (place - start) (drop start all) (omega (arith, h, in_all, left))

-- one byte more of a string
one_more : (start place b : ℕ) (all rest : List ℕ) → start ≤ place → drop place all ≡ b ∷ rest → take (place + 1 - start) (drop start all) ≡ take (place - start) (drop start all) ++ b ∷ []
one_more start place b all rest h is =
    let more : place + 1 - start ≡ (place - start) + 1 = omega (arith, h) in
    let here : start + (place - start) ≡ place = omega (arith, h) in
    let string = take (place - start) (drop start all) in
    ap (λ n. take n (drop start all)) more ∙ take-add (place - start) 1 (drop start all)
    ∙ ap (λ (ys : List ℕ). string ++ take 1 ys) (drop-drop (place - start) start all ∙ ap (λ n. drop n all) here ∙ is)

-- where a string ends
ends : (section start place : ℕ) (all rest : List ℕ) → start ≤ place → place < length all → drop place all ≡ 0 ∷ rest → strings_from section start (take (place - start) (drop start all)) (drop place all) ≡ string_said section start (take (place - start) (drop start all)) ++ strings_from section (place + 1) [] rest
ends section start place all rest h in_all is =
    let string = take (place - start) (drop start all) in
    let long = length_between start place all h in_all in
    let next : start + length string + 1 ≡ place + 1 = omega (arith, h, long) in
    ap (λ (ys : List ℕ). strings_from section start string ys) is
    ∙ ap (λ n. string_said section start string ++ strings_from section n [] rest) next

-- where the string continues
goes_on : (section start place b : ℕ) (all rest : List ℕ) → start ≤ place → drop place all ≡ b ∷ rest → (b == 0) ≡ false → strings_from section start (take (place - start) (drop start all)) (drop place all) ≡ strings_from section start (take (place + 1 - start) (drop start all)) rest
goes_on section start place b all rest h is other =
    let string = take (place - start) (drop start all) in
    ap (λ (ys : List ℕ). strings_from section start string ys) is
    ∙ rw other (ap (λ (ys : List ℕ). strings_from section start ys rest) (sym (one_more start place b all rest h is)))

module _ {T : Type 0} (one : T → Said → T) where
  -- what is said of the string that is read and of the bytes from here on leads to the same
  abbrev pub Left : T → ℕ → ℕ → ℕ → ℕ → List ℕ → T → Type 0
  Left teller section start place here all end =
      saying one teller (strings_from section start (take (place - start) (drop start all)) (drop here all)) ≡ end

  -- after a 0 byte
  pub after_zero : (teller new end : T) (section start place here : ℕ) (all : List ℕ) → place ≡ here → start ≤ place → here < length all → get_or all here 0 ≡ 0 → new ≡ saying one teller (string_said section start (take (place - start) (drop start all))) → Left teller section start place here all end → Left new section (place + 1) (place + 1) (here + 1) all end
  after_zero teller new end section start place here all same =
      subst (λ here. start ≤ place → here < length all → get_or all here 0 ≡ 0 → new ≡ saying one teller (string_said section start (take (place - start) (drop start all))) → Left teller section start place here all end → Left new section (place + 1) (place + 1) (here + 1) all end) same
      (λ h in_all zero said before.
      let rest = drop (place + 1) all in
      let string = take (place - start) (drop start all) in
      let none : place + 1 - (place + 1) ≡ 0 = omega arith in
      let is : drop place all ≡ 0 ∷ rest = next_byte place all in_all ∙ ap (λ b. b ∷ rest) zero in
      ap (λ n. saying one new (strings_from section (place + 1) (take n rest) rest)) none
      ∙ ap (λ (t : T). saying one t (strings_from section (place + 1) [] rest)) said
      ∙ saying_both one teller (string_said section start string) (strings_from section (place + 1) [] rest)
      ∙ ap (λ (t : List Said). saying one teller t) (sym (ends section start place all rest h in_all is))
      ∙ before)

  -- after another byte
  pub after_other : (teller end : T) (section start place here : ℕ) (all : List ℕ) → place ≡ here → start ≤ place → here < length all → (get_or all here 0 ≡ 0 → ⊥) → Left teller section start place here all end → Left teller section start (place + 1) (here + 1) all end
  after_other teller end section start place here all same =
      subst (λ here. start ≤ place → here < length all → (get_or all here 0 ≡ 0 → ⊥) → Left teller section start place here all end → Left teller section start (place + 1) (here + 1) all end) same
      (λ h in_all other before.
      ap (λ (t : List Said). saying one teller t) (sym (goes_on section start place (get_or all place 0) all (drop (place + 1) all) h (next_byte place all in_all) (ne_eqb (get_or all place 0) 0 other)))
      ∙ before)
