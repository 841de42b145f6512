-- What the writers got, one thing that is said more.
use Rattle.std.proofs.Common.{◌≡◌, ℕ, Bool, true, false, ◌&&◌, List, [], ◌∷◌, ◌++◌, Option, Some, None, Result, Ok, Err, refl, sym, ap, ◌∙◌, append_assoc, append-nil}
use Rattle.std.proofs.lemmas.Bool.{and_parts}
use Rattle.std.specs.Io.KnownBytes.{Appends}
use Rattle.std.specs.List.{list_all}
use Rattle.std.specs.Result.{OnOk, is_ok}
use Rattle.nugwier_report.specs.Texts.{AreAppended, AreTexts, Written}

-- ---- texts of several things

module _ {A : Type 0} (AreOf : A → List ℕ → List ℕ → Type 0) where
  -- the texts of one more
  pub texts_more : (xs : List A) (x : A) (out err own told : List ℕ) → AreTexts AreOf xs out err → AreOf x own told → AreTexts AreOf (xs ++ x ∷ []) (out ++ own) (err ++ told)
  texts_more [] x out err own told (h, k) is =
      (own, told, [], [], is, (refl, refl), ap (λ (t : List ℕ). t ++ own) h ∙ sym (append-nil own), ap (λ (t : List ℕ). t ++ told) k ∙ sym (append-nil told))
  texts_more (y ∷ ys) x out err own told (o, e, others, rest, this, are, h, k) is = (
    o,
    e,
    others ++ own,
    rest ++ told,
    this,
    texts_more ys x others rest own told are is,
    ap (λ (t : List ℕ). t ++ own) h ∙ append_assoc o others own,
    ap (λ (t : List ℕ). t ++ told) k ∙ append_assoc e rest told,
  )

  -- the texts of some, and then those of others
  pub texts_both : (xs ys : List A) (s s' t t' : List ℕ) → AreTexts AreOf xs s s' → AreTexts AreOf ys t t' → AreTexts AreOf (xs ++ ys) (s ++ t) (s' ++ t')
  texts_both [] ys s s' t t' (h, k) are = rw (h, k) are
  texts_both (x ∷ xs) ys s s' t t' (o, e, others, rest, this, of, h, k) are = (
    o,
    e,
    others ++ t,
    rest ++ t',
    this,
    texts_both xs ys others rest t t' of are,
    ap (λ (u : List ℕ). u ++ t) h ∙ append_assoc o others t,
    ap (λ (u : List ℕ). u ++ t') k ∙ append_assoc e rest t',
  )

pub appends_both : (a b c : Option (List ℕ)) (x y : List ℕ) → Appends a b x → Appends b c y → Appends a c (x ++ y)
appends_both None b c x y h k = tt
appends_both (Some a) None c x y h k = absurd h
appends_both (Some a) (Some b) None x y h k = k
appends_both (Some a) (Some b) (Some c) x y h k = k ∙ ap (λ (t : List ℕ). t ++ y) h ∙ append_assoc a x y

pub appends_none : (a : Option (List ℕ)) → Appends a a []
appends_none None = tt
appends_none (Some a) = sym (append-nil a)

-- ---- a report

and_false : (b : Bool) → (b && false) ≡ false
and_false true = refl
and_false false = refl

module _ {A : Type 0} (right : A → Bool) where
  right_more : (said : List A) (s : A) → right s ≡ true → list_all right (said ++ s ∷ []) ≡ list_all right said
  right_more [] s h = ap (λ (b : Bool). b && true) h
  right_more (x ∷ xs) s h = ap (λ (b : Bool). right x && b) (right_more xs s h)

  wrong_more : (said : List A) (s : A) → right s ≡ false → list_all right (said ++ s ∷ []) ≡ false
  wrong_more [] s h = ap (λ (b : Bool). b && true) h
  wrong_more (x ∷ xs) s h = ap (λ (b : Bool). right x && b) (wrong_more xs s h) ∙ and_false (right x)

  pub right_then : (was : Bool) (said said' : List A) (s : A) → was ≡ list_all right said → said' ≡ said ++ s ∷ [] → right s ≡ true → was ≡ list_all right said'
  right_then was said said' s h more is = rw more (h ∙ sym (right_more said s is))

  pub wrong_then : (said said' : List A) (s : A) → said' ≡ said ++ s ∷ [] → right s ≡ false → false ≡ list_all right said'
  wrong_then said said' s more is = rw more (sym (wrong_more said s is))

abbrev pub start : Option (List ℕ) → Option (List ℕ) → Written
start out err = record { out = out; err = err }

module _ {A : Type 0} (AreOf : A → List ℕ → List ℕ → Type 0) where
  -- the writers got the texts of one more, each unless a write of it failed
  pub written_more : (lost lost' told told' : Bool) (start start' now next : Written) (said said' : List A) (s : A) (own other : List ℕ)
      → AreAppended AreOf lost told start now said → start' ≡ start → said' ≡ said ++ s ∷ [] → AreOf s own other
      → (lost' ≡ false → (lost ≡ false) × Appends now.out next.out own)
      → (told' ≡ true → (told ≡ true) × Appends now.err next.err other)
      → AreAppended AreOf lost' told' start' next said'
  written_more lost lost' told told' start start' now next said said' s own other (out, err, texts, h, k) begun more is listed telled =
      rw (begun, more) (
        out ++ own,
        err ++ other,
        texts_more AreOf said s out err own other texts is,
        λ kept. let one = listed kept in appends_both start.out now.out next.out out own (h one.0) one.1,
        λ kept. let one = telled kept in appends_both start.err now.err next.err err other (k one.0) one.1,
      )

  -- the texts of some, and then those of others
  pub written_both : (told told' : Bool) (a b c : Written) (xs ys : List A) → AreAppended AreOf false told a b xs → AreAppended AreOf false told' b c ys
      → AreAppended AreOf false (told && told') a c (xs ++ ys)
  written_both told told' a b c xs ys (s, s', is, h, h') (t, t', are, k, k') = (
    s ++ t,
    s' ++ t',
    texts_both AreOf xs ys s s' t t' is are,
    λ kept. appends_both a.out b.out c.out s t (h refl) (k refl),
    λ kept. let both = and_parts told told' kept in appends_both a.err b.err c.err s' t' (h' both.0) (k' both.1),
  )

  -- the texts of some as those of one
  pub written_one : {B : Type 0} (AreOne : B → List ℕ → List ℕ → Type 0) (told : Bool) (a b : Written) (xs : List A) (x : B)
      → ((out err : List ℕ) → AreTexts AreOf xs out err → AreOne x out err) → AreAppended AreOf false told a b xs → AreAppended AreOne false told a b (x ∷ [])
  written_one AreOne told a b xs x one (s, t, is, h, k) =
      (s, t, (s, t, [], [], one s t is, (refl, refl), sym (append-nil s), sym (append-nil t)), h, k)

  pub written_none : (a : Written) → AreAppended AreOf false true a a []
  written_none a = ([], [], (refl, refl), λ kept. appends_none a.out, λ kept. appends_none a.err)

-- what the writers had, by the log of one
pub begun_as : (out out' err : Option (List ℕ)) → out' ≡ out → start out' err ≡ start out err
begun_as out out' err is = rw is refl

-- an error of the writer of problems is remembered
pub told_more : {X E : Type 0} (told : Bool) (r : Result X E) (now next : Option (List ℕ)) (own : List ℕ) → OnOk r (Appends now next own)
    → (told && is_ok r) ≡ true → (told ≡ true) × Appends now next own
told_more false r now next own written kept = absurd (cc kept)
told_more true (Err e) now next own written kept = absurd (cc kept)
told_more true (Ok x) now next own written kept = (refl, written)
