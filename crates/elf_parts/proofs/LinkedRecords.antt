-- The list of linked records, step by step.
use Rattle.std.proofs.Common.{◌≡◌, ℕ, zero, suc, ◌+◌, ◌-◌, ◌≤◌, min, map, take, Bool, Option, Some, None, List, []}
use Rattle.std.proofs.Common.{◌∷◌, length, Result, Ok, Err, refl, ap, sym, ◌∙◌, inl, inr, arith}
use Rattle.std.proofs.lemmas.Bool.{cases_lt}
use Rattle.std.proofs.lemmas.List.{length-map}
use Rattle.std.proofs.lemmas.Grind.{common_steps}
use Rattle.elf_records.specs.declared.file.Class.{Class}
use Rattle.elf_records.specs.declared.parse.ParseError.{ParseError}
use Rattle.elf_records.specs.Record.{RecordType}
use Rattle.elf_records.specs.Table.{Table}
use Rattle.elf_parts.specs.Link.{AreLinked, AreLongest, from_next, links_from, links}
use Rattle.elf_parts.specs.gnu_symver.Links.{front_then, links_in, next_start}

module _ {A : Type 0} (record_at : Bool → Class → List ℕ → ℕ → Result A ParseError) (next : A → ℕ) where
  -- no record if there is to be none
  pub links_none : (t : Table) (o : ℕ) → links_in record_at next t 0 o ≡ []
  unfolding links_in
  links_none t o = refl

  -- a record that cannot be read ends the list
  pub links_refused : (t : Table) (n o : ℕ) (e : ParseError) → record_at t.little t.class t.bytes o ≡ Err e →
      links_in record_at next t n o ≡ []
  unfolding links_in
  links_refused t zero o e h = refl
  links_refused t (suc n) o e h = rw h refl

  -- a record that is read comes before those after it
  pub links_read : (t : Table) (n o : ℕ) (x : A) → 1 ≤ n → record_at t.little t.class t.bytes o ≡ Ok x →
      links_in record_at next t n o ≡ (o, x) ∷ from_next (next_start o (next x)) (links_in record_at next t (n - 1))
  unfolding links_in
  links_read t zero o x some h = absurd (omega arith)
  links_read t (suc n) o x some h =
      let less : suc n - 1 ≡ n = omega arith in
      rw (h, less) refl

  -- the same of the first n records, the one after it being at p
  pub links_step : (t : Table) (n o p : ℕ) (x : A) → record_at t.little t.class t.bytes o ≡ Ok x →
      ((m : ℕ) → links_in record_at next t m p ≡ from_next (next_start o (next x)) (links_in record_at next t m)) →
      links_in record_at next t n o ≡ front_then n o (Some x) (links_in record_at next t (n - 1) p)
  links_step t zero o p x h behind = links_none t o
  links_step t (suc n) o p x h behind =
      links_read t (suc n) o x (omega arith) h ∙ sym (ap (λ xs. (o, x) ∷ xs) (behind (suc n - 1)))

module _ {A : Type 0} (reads : RecordType A) (next : A → ℕ) where
  past : (t : Table) (n o : ℕ) (r : Result A ParseError) → length t.bytes ≤ o →
      reads.record_at t.little t.class t.bytes o ≡ r →
      links_from (λ o x. next_start o (next x)) o r (links_in reads.record_at next t n) ≡ []
  past t n o (Ok x) end e =
      let some = reads.some_size t.class in
      let inside = reads.within t.little t.class t.bytes o x e in
      absurd (omega (arith, some, inside.0))
  past t n o (Err d) end e = refl

  -- no record begins past the data
  pub links_past : (t : Table) (n o : ℕ) → length t.bytes ≤ o → links_in reads.record_at next t n o ≡ []
  unfolding links_in
  links_past t zero o end = refl
  links_past t (suc n) o end = past t n o (reads.record_at t.little t.class t.bytes o) end refl

  -- the end of the data is as good as no next record
  pub links_at_end : (t : Table) (n : ℕ) (place : Option ℕ) → place ≡ None →
      links_in reads.record_at next t n (length t.bytes) ≡ from_next place (links_in reads.record_at next t n)
  links_at_end t n None e = links_past t n (length t.bytes) (omega arith)
  links_at_end t n (Some o) e = cc

  -- nor, where no record can be read, is there one at the end
  pub links_stop : (t : Table) (n o p : ℕ) (e : ParseError) → reads.record_at t.little t.class t.bytes o ≡ Err e →
      p ≡ length t.bytes →
      links_in reads.record_at next t n o ≡ front_then n o None (links_in reads.record_at next t (n - 1) p)
  links_stop t zero o p e h end = links_none reads.record_at next t o
  links_stop t (suc n) o p e h end =
      links_refused reads.record_at next t (suc n) o e h ∙ sym (links_past t (suc n - 1) p (omega (arith, end)))

  next_few : (t : Table) (n o d : ℕ) → ((p : ℕ) → length (links_in reads.record_at next t n p) ≤ length t.bytes - p) →
      length (from_next (next_start o d) (links_in reads.record_at next t n)) ≤ length t.bytes - (o + 1)
  next_few t n o d behind = grind (arith, common_steps, behind (o + d))

  step_few : (t : Table) (n o : ℕ) (r : Result A ParseError) → reads.record_at t.little t.class t.bytes o ≡ r →
      ((p : ℕ) → length (links_in reads.record_at next t n p) ≤ length t.bytes - p) →
      length (links_from (λ o x. next_start o (next x)) o r (links_in reads.record_at next t n)) ≤ length t.bytes - o
  step_few t n o (Ok x) e behind =
      let some = reads.some_size t.class in
      let inside = reads.within t.little t.class t.bytes o x e in
      let rest : length (from_next (next_start o (next x)) (links_in reads.record_at next t n)) ≤ length t.bytes - (o + 1) =
      next_few t n o (next x) behind in
      omega (arith, some, inside.0)
  step_few t n o (Err d) e behind = omega arith

  -- no more records than bytes
  pub links_few : (t : Table) (n o : ℕ) → length (links_in reads.record_at next t n o) ≤ length t.bytes - o
  unfolding links_in
  links_few t zero o = omega arith
  links_few t (suc n) o = step_few t n o (reads.record_at t.little t.class t.bytes o) refl (links_few t n)

  -- so an offset past the data may be any other one
  pub links_clipped : (t : Table) (n o p : ℕ) → p ≡ min o (length t.bytes) →
      links_in reads.record_at next t n p ≡ links_in reads.record_at next t n o
  links_clipped t n o p e =
      elim (cases_lt o (length t.bytes)) [
        | inl h ↦ let same : p ≡ o = omega arith in ap (links_in reads.record_at next t n) same
        | inr h ↦ links_past t n p (omega arith) ∙ sym (links_past t n o h)
      ]

module _ {A : Type 0} (gives : ℕ → Result A ParseError) (follow : ℕ → A → Option ℕ) where
  some_linked : (o : ℕ) (r : Result A ParseError) (behind : ℕ → List (ℕ × A)) → gives o ≡ r →
      ((x : A) → AreLinked gives follow (follow o x) (from_next (follow o x) behind)) →
      AreLinked gives follow (Some o) (links_from follow o r behind)
  some_linked o (Ok x) behind e rest = (refl, e, rest x)
  some_linked o (Err d) behind e rest = tt

  all_linked : (n : ℕ) (place : Option ℕ) → AreLinked gives follow place (from_next place (links gives follow n))
  all_linked n None = tt
  all_linked zero (Some o) = tt
  all_linked (suc n) (Some o) = some_linked o (gives o) (links gives follow n) refl (λ x. all_linked n (follow o x))

  none_bounded : (n : ℕ) (place : Option ℕ) (list : ℕ → List (ℕ × A)) → ((o : ℕ) → length (list o) ≤ n) →
      length (from_next place list) ≤ n
  none_bounded n None list h = omega arith
  none_bounded n (Some o) list h = h o

  one_bounded : (n o : ℕ) (r : Result A ParseError) (behind : ℕ → List (ℕ × A)) → ((p : ℕ) → length (behind p) ≤ n) →
      length (links_from follow o r behind) ≤ suc n
  one_bounded n o (Ok x) behind h = let b = none_bounded n (follow o x) behind h in omega arith
  one_bounded n o (Err d) behind h = omega arith

  pub links_bounded : (n o : ℕ) → length (links gives follow n o) ≤ n
  links_bounded zero o = omega arith
  links_bounded (suc n) o = one_bounded n o (gives o) (links gives follow n) (links_bounded n)

  front_of : (n : ℕ) (place : Option ℕ) (others : List (ℕ × A)) → AreLinked gives follow place others →
      length others ≤ n → others ≡ take (length others) (from_next place (links gives follow n))
  front_of n place [] all few = refl
  front_of zero place (link ∷ others) all few = absurd (omega arith)
  front_of (suc n) place (link ∷ others) all few =
      let here = all.0 in
      let read = all.1 in
      let behind = front_of n (follow link.0 link.1) others all.2 (omega arith) in
      rw (here, read) (ap (λ xs. link ∷ xs) behind)

  pub longest : (n o : ℕ) → AreLongest gives follow n o (links gives follow n o)
  longest n o = (all_linked n (Some o), links_bounded n o, λ others all few. front_of n (Some o) others all few)

-- no more records than the count
pub count_bounds : {A : Type 0} (record_at : Bool → Class → List ℕ → ℕ → Result A ParseError) (next : A → ℕ)
    (t : Table) (n o : ℕ) →
    length (links_in record_at next t n o) ≤ n
unfolding links_in
count_bounds record_at next t n o =
    links_bounded (record_at t.little t.class t.bytes) (λ o x. next_start o (next x)) n o

-- a bound on a list is one on what is read of it
pub map_bounds : {A B : Type 0} (f : A → B) (xs : List A) (n : ℕ) → length xs ≤ n → length (map f xs) ≤ n
map_bounds f xs n h = rw length-map h
