-- The list of the records that are left, step by step.
use Rattle.std.proofs.Common.{◌≡◌, ℕ, Bool, zero, suc, ◌+◌, ◌-◌, ◌≤◌, List, [], ◌∷◌, length, Result, Ok, Err, take, drop, true, ◌^◌, ◌<◌, refl, ap, sym, ◌∙◌, arith}
use Rattle.std.specs.Prelude.{IsErr}
use Rattle.elf_records.specs.declared.parse.ParseError.{ParseError}
use Rattle.elf_records.specs.declared.file.Class.{Class}
use Rattle.elf_records.specs.Record.{RecordType}
use Rattle.elf_records.specs.Table.{items_from, unless_refused}

-- a read that succeeds lies in the bytes
pub record LiesWithin {A : Type 0} (gives : List ℕ → ℕ → Result A ParseError) (size : ℕ) : Type 0 where
  pub some : 1 ≤ size
  pub within : (bytes : List ℕ) (o : ℕ) (x : A) → gives bytes o ≡ Ok x → o + size ≤ length bytes

past : {A : Type 0} (gives : List ℕ → ℕ → Result A ParseError) (size : ℕ) (bytes : List ℕ) (o : ℕ) (xs : List A) (r : Result A ParseError) → LiesWithin gives size → length bytes ≤ o → gives bytes o ≡ r → unless_refused r xs ≡ []
past gives size bytes o xs (Ok x) law end e = absurd (omega (arith, law.some, law.within bytes o x e))
past gives size bytes o xs (Err d) law end e = refl

-- the limit does not matter if it is large enough
pub items_from-enough : {A : Type 0} (gives : List ℕ → ℕ → Result A ParseError) (size : ℕ) (bytes : List ℕ) → LiesWithin gives size → (m n o : ℕ) → length bytes ≤ o + m → length bytes ≤ o + n → items_from gives size m bytes o ≡ items_from gives size n bytes o
items_from-enough gives size bytes law zero zero o hm hn = refl
items_from-enough {A = A} gives size bytes law zero (suc n) o hm hn =
    let e = past gives size bytes o (items_from gives size n bytes (o + size)) (gives bytes o) law (omega arith) refl in
    let back : [] ≡ unless_refused (gives bytes o) (items_from gives size n bytes (o + size)) = cc in back
items_from-enough gives size bytes law (suc m) zero o hm hn = past gives size bytes o (items_from gives size m bytes (o + size)) (gives bytes o) law (omega arith) refl
items_from-enough {A = A} gives size bytes law (suc m) (suc n) o hm hn =
    let s = law.some in
    ap (λ (xs : List A). unless_refused (gives bytes o) xs) (items_from-enough gives size bytes law m n (o + size) (omega arith) (omega arith))

pub items_from-refused : {A : Type 0} (gives : List ℕ → ℕ → Result A ParseError) (size : ℕ) (bytes : List ℕ) (n o : ℕ) (e : ParseError) → gives bytes o ≡ Err e → items_from gives size n bytes o ≡ []
items_from-refused gives size bytes zero o e h = refl
items_from-refused gives size bytes (suc n) o e h = rw h refl

one_more : {A : Type 0} (gives : List ℕ → ℕ → Result A ParseError) (size : ℕ) (bytes : List ℕ) (o n : ℕ) (x : A) → 1 ≤ n → gives bytes o ≡ Ok x → items_from gives size n bytes o ≡ x ∷ items_from gives size (n - 1) bytes (o + size)
one_more gives size bytes o zero x h e = absurd (omega arith)
one_more gives size bytes o (suc n) x h e = let less : suc n - 1 ≡ n = omega arith in rw (e, less) refl

pub items_from-read : {A : Type 0} (gives : List ℕ → ℕ → Result A ParseError) (size : ℕ) (bytes : List ℕ) (o : ℕ) (x : A) → LiesWithin gives size → gives bytes o ≡ Ok x → items_from gives size (length bytes - o) bytes o ≡ x ∷ items_from gives size (length bytes - (o + size)) bytes (o + size)
items_from-read {A = A} gives size bytes o x law e =
    let s = law.some in
    let w = law.within bytes o x e in
    one_more gives size bytes o (length bytes - o) x (omega arith) e
    ∙ ap (λ (xs : List A). x ∷ xs) (items_from-enough gives size bytes law (length bytes - o - 1) (length bytes - (o + size)) (o + size) (omega arith) (omega arith))

is_refused : {A : Type 0} (r : Result A ParseError) → ((x : A) → r ≡ Ok x → ⊥) → IsErr r
is_refused (Ok x) never = absurd (never x refl)
is_refused (Err e) never = refl

pub refusal : {A : Type 0} (r : Result A ParseError) → IsErr r → (e : ParseError) × (r ≡ Err e)
refusal (Ok x) is = cc
refusal (Err e) is = (e, refl)

both_ways : {A : Type 0} (r : Result A ParseError) (x : A) (e : ParseError) → r ≡ Ok x → r ≡ Err e → ⊥
both_ways r x e is isnt = cc

-- ---- the same by the laws of a type of records

module _ {A : Type 0} (reads : RecordType A) where
  pub lies : (little : Bool) (class : Class) → LiesWithin (reads.record_at little class) (reads.size class)
  lies little class = record { some = reads.some_size class; within = λ bytes o x e. (reads.within little class bytes o x e).0 }

  -- a record that does not lie in the bytes is refused
  pub refused_outside : (little : Bool) (class : Class) (bytes : List ℕ) (o : ℕ) → length bytes < o + reads.size class → IsErr (reads.record_at little class bytes o)
  refused_outside little class bytes o outside =
      is_refused (reads.record_at little class bytes o) (λ x e. let w = (reads.within little class bytes o x e).0 in omega arith)

  -- a record that its own bytes give is read
  pub read_locally : (little : Bool) (class : Class) (bytes : List ℕ) (o : ℕ) (x : A) → reads.local ≡ true → o + reads.size class < 2 ^ 64 → o + reads.size class ≤ length bytes → reads.record_at little class (take (reads.size class) (drop o bytes)) 0 ≡ Ok x → reads.record_at little class bytes o ≡ Ok x
  read_locally little class bytes o x local small within is = (reads.locally local little class bytes o x small within).0 is

  -- a record that its own bytes do not give is refused
  pub refused_locally : (little : Bool) (class : Class) (bytes : List ℕ) (o : ℕ) → reads.local ≡ true → o + reads.size class < 2 ^ 64 → o + reads.size class ≤ length bytes → IsErr (reads.record_at little class (take (reads.size class) (drop o bytes)) 0) → IsErr (reads.record_at little class bytes o)
  refused_locally little class bytes o local small within isnt =
      let own = reads.record_at little class (take (reads.size class) (drop o bytes)) 0 in
      let e = refusal own isnt in
      is_refused (reads.record_at little class bytes o) (λ x is. both_ways own x e.0 ((reads.locally local little class bytes o x small within).1 is) e.1)

  pub step_read : (little : Bool) (class : Class) (bytes : List ℕ) (o next : ℕ) (x : A) → Ok x ≡ reads.record_at little class bytes o → next ≡ reads.offset_after little class bytes o → items_from (reads.record_at little class) (reads.size class) (length bytes - o) bytes o ≡ x ∷ items_from (reads.record_at little class) (reads.size class) (length bytes - next) bytes next
  step_read little class bytes o next x e moved =
      items_from-read (reads.record_at little class) (reads.size class) bytes o x (lies little class) (sym e)
      ∙ ap (λ (n : ℕ). x ∷ items_from (reads.record_at little class) (reads.size class) (length bytes - n) bytes n) (sym (moved ∙ (reads.within little class bytes o x (sym e)).1))

  pub none_left : (little : Bool) (class : Class) (o : ℕ) → items_from (reads.record_at little class) (reads.size class) (length {A = ℕ} [] - o) [] o ≡ []
  none_left little class o = items_from-enough (reads.record_at little class) (reads.size class) [] (lies little class) (length {A = ℕ} [] - o) 0 o (omega arith) (omega arith)

pub ruleset local_reads = (refused_outside, read_locally, refused_locally)

one_bounded : {A : Type 0} (r : Result A ParseError) (xs : List A) (n : ℕ) → length xs ≤ n → length (unless_refused r xs) ≤ suc n
one_bounded (Ok x) xs n h = omega arith
one_bounded (Err e) xs n h = omega arith

-- no more records than the limit
pub items_bounded : {A : Type 0} (gives : List ℕ → ℕ → Result A ParseError) (size n : ℕ) (bytes : List ℕ) (o : ℕ) → length (items_from gives size n bytes o) ≤ n
items_bounded gives size zero bytes o = omega arith
items_bounded gives size (suc n) bytes o =
    one_bounded (gives bytes o) (items_from gives size n bytes (o + size)) n (items_bounded gives size n bytes (o + size))
