-- The first problem of what was told.
use Rattle.std.proofs.Common.{◌≡◌, ◌∙◌, Bool, true, false, List, [], ◌∷◌, ap, is_some, refl, sym, if◌then◌else◌}
use Rattle.nugwier_programs.specs.Starts.{first_problem, first_said, found_reason, reason_one}
use Rattle.nugwier_programs.specs.declared.starts.first_reason.FirstReason.{FirstReason}
use Rattle.nugwier_report.specs.Said.{Said, saying, states, warns}

chosen : {A : Type 0} (test : Bool) (x y : A) → test ≡ true → (if test then x else y) ≡ x
chosen true x y is = refl
chosen false x y is = absurd (cc is)

other : {A : Type 0} (test : Bool) (x y : A) → test ≡ false → (if test then x else y) ≡ y
other true x y is = absurd (cc is)
other false x y is = refl

module _ {T : Type 0} (one : T → Said → T) where
  -- after the first problem nothing is passed on
  kept : (first : FirstReason T) (said : List Said) → first.is_found ≡ true → saying (reason_one one) first said ≡ first
  kept first [] found = refl
  kept first (states layout members ∷ said) found = kept first said found
  kept first (warns place stated ∷ said) found =
      ap (λ (f : FirstReason T). saying (reason_one one) f said) (chosen first.is_found first (found_reason one first place stated) found) ∙ kept first said found

  abbrev pub after : FirstReason T → List Said → FirstReason T
  after first said = record first {
    is_found = is_some (first_problem said);
    tell = record first.tell { now = saying one first.tell.now (first_said (first_problem said)) };
  }

  -- a teller to whom no problem was told yet passes on the first one
  pub passed_on : (first : FirstReason T) (said : List Said) → first.is_found ≡ false → saying (reason_one one) first said ≡ after first said
  passed_on first [] found = ap (λ (b : Bool). record first { is_found = b }) found
  passed_on first (states layout members ∷ said) found = passed_on first said found
  passed_on first (warns place stated ∷ said) found =
      ap (λ (f : FirstReason T). saying (reason_one one) f said) (other first.is_found first (found_reason one first place stated) found) ∙ kept (found_reason one first place stated) said refl

  -- what the teller has that was lent
  pub first_told : (old last : FirstReason T) (now : T) (said : List Said) → old.is_found ≡ false → last ≡ saying (reason_one one) old said
      → (old.tell.ghost_name ≡ last.tell.ghost_name → now ≡ last.tell.now)
      → (last.is_found ≡ is_some (first_problem said)) × (now ≡ saying one old.tell.now (first_said (first_problem said)))
  first_told old last now said none told given =
      let is : last ≡ after old said = told ∙ passed_on old said none in
      let held : old.tell.ghost_name ≡ last.tell.ghost_name = sym (ap (λ (f : FirstReason T). f.tell.ghost_name) is) in
      (ap (λ (f : FirstReason T). f.is_found) is, given held ∙ ap (λ (f : FirstReason T). f.tell.now) is)
