-- What follows of every record that is read by a field table.
use Rattle.std.proofs.Common.{nat_lt, ◌≡◌, ℕ, ◌+◌, ◌-◌, ◌<◌, ◌≤◌, ◌^◌, Bool, true, false, Option, Some, None, List, []}
use Rattle.std.proofs.Common.{◌∷◌, length, take, drop, ◌&&◌, Result, Ok, Err, is_none, refl, ap, sym, ◌∙◌, arith}
use Rattle.std.proofs.lemmas.Grind.{common_steps}
use Rattle.std.proofs.lemmas.List.{drop-take, take-take, drop-drop}
use Rattle.std.proofs.lemmas.Simd.{length-chunk}
use Rattle.elf_records.specs.declared.parse.ParseError.{ParseError}
use Rattle.elf_records.specs.Number.{bytes_at, number, number_at, ok_map}
use Rattle.elf_records.specs.Record.{Field, size_of, ◌>>=◌, field_value, numbers_at, numbers_end, Layout, size_by}
use Rattle.elf_records.specs.Record.{record_by}
use Rattle.elf_records.specs.Record.{offset_by, ReadsWithin, ReadsLocally, ReadsOnly, ReadsWherever, RecordType}
use Rattle.elf_records.specs.declared.file.Class.{Class}
use Rattle.elf_records.specs.declared.file.Class.TheVariants.{ELF32, ELF64}

pub and_true : (a b : Bool) → (a && b) ≡ true → (a ≡ true) × (b ≡ true)
and_true true b e = (refl, e)
and_true false b e = cc

pub ok_map-ok : {A B E : Type 0} (f : A → B) (r : Result A E) (y : B) → ok_map f r ≡ Ok y →
    (x : A) × (r ≡ Ok x) × (f x ≡ y)
ok_map-ok f (Ok x) y e = (x, refl, cc)
ok_map-ok f (Err d) y e = cc

pub bind-ok : {A B E : Type 0} (r : Result A E) (f : A → Result B E) (y : B) → (r >>= f) ≡ Ok y →
    (x : A) × (r ≡ Ok x) × (f x ≡ Ok y)
bind-ok (Ok x) f y e = (x, refl, e)
bind-ok (Err d) f y e = cc

pub bytes_at-from : (w : ℕ) (bytes : List ℕ) (o : ℕ) → o + w < 2 ^ 64 → o + w ≤ length bytes →
    bytes_at w bytes o ≡ Ok (take w (drop o bytes))
unfolding bytes_at
bytes_at-from w bytes o small within = grind (arith, common_steps)

pub bytes_at-ok : (w : ℕ) (bytes : List ℕ) (o : ℕ) (bs : List ℕ) → bytes_at w bytes o ≡ Ok bs →
    (o + w < 2 ^ 64) × (o + w ≤ length bytes) × (bs ≡ take w (drop o bytes))
unfolding bytes_at
bytes_at-ok w bytes o bs e = (grind (arith, common_steps), grind (arith, common_steps), grind (arith, common_steps))

-- ---- one number

pub number_at-ok : (little : Bool) (w : ℕ) (bytes : List ℕ) (o n : ℕ) → number_at little w bytes o ≡ Ok n →
    (o + w < 2 ^ 64) × (o + w ≤ length bytes) × (n ≡ number little (take w (drop o bytes)))
unfolding number_at
number_at-ok little w bytes o n e =
    let m = ok_map-ok (number little) (bytes_at w bytes o) n e in
    let k = bytes_at-ok w bytes o m.0 m.1 in
    (k.0, k.1, sym m.2 ∙ ap (number little) k.2)

pub number_at-from : (little : Bool) (w : ℕ) (bytes : List ℕ) (o n : ℕ) → o + w < 2 ^ 64 → o + w ≤ length bytes →
    n ≡ number little (take w (drop o bytes)) → number_at little w bytes o ≡ Ok n
unfolding number_at
number_at-from little w bytes o n small within e = rw (bytes_at-from w bytes o small within, e) refl

-- a part of a part
pub part_of_part : (w place size p : ℕ) (xs : List ℕ) → place + w ≤ size →
    take w (drop place (take size (drop p xs))) ≡ take w (drop (p + place) xs)
part_of_part w place size p xs fits =
    let split : size ≡ place + (size - place) = omega arith in
    let cut : drop place (take size (drop p xs)) ≡ take (size - place) (drop (p + place) xs) =
    ap (λ (n : ℕ). drop place (take n (drop p xs))) split ∙ drop-take place (size - place) (drop p xs)
    ∙ ap (take (size - place)) (drop-drop place p xs) in
    ap (take w) cut ∙ take-take w (size - place) (drop (p + place) xs) (omega arith)

-- the same bytes at another place are the same number
pub number_at-same : (little : Bool) (w : ℕ) (bytes others : List ℕ) (o p size place n m : ℕ) → place + w ≤ size →
    take size (drop o bytes) ≡ take size (drop p others) → number_at little w bytes (o + place) ≡ Ok n →
    number_at little w others (p + place) ≡ Ok m → n ≡ m
number_at-same little w bytes others o p size place n m fits same e d =
    let bytes_same : take w (drop (o + place) bytes) ≡ take w (drop (p + place) others) =
    sym (part_of_part w place size o bytes fits) ∙ ap (λ (xs : List ℕ). take w (drop place xs)) same
    ∙ part_of_part w place size p others fits in
    (number_at-ok little w bytes (o + place) n e).2 ∙ ap (number little) bytes_same
    ∙ sym (number_at-ok little w others (p + place) m d).2

-- a number that a part gives is read where the part lies
pub number_at-part : (little : Bool) (w : ℕ) (bytes : List ℕ) (o size place n : ℕ) → place + w ≤ size →
    o + size < 2 ^ 64 → o + size ≤ length bytes → number_at little w (take size (drop o bytes)) (0 + place) ≡ Ok n →
    number_at little w bytes (o + place) ≡ Ok n
number_at-part little w bytes o size place n fits small within e =
    let start : 0 + place ≡ place = omega arith in
    let at = ap (λ (j : ℕ). number little (take w (drop j (take size (drop o bytes))))) start in
    let m = number_at-ok little w (take size (drop o bytes)) (0 + place) n e in
    number_at-from little w bytes (o + place) n (omega arith) (omega arith)
    (m.2 ∙ at ∙ ap (number little) (part_of_part w place size o bytes fits))

-- a number that is read is what its part gives
pub number_at-whole : (little : Bool) (w : ℕ) (bytes : List ℕ) (o size place n : ℕ) → place + w ≤ size →
    o + size < 2 ^ 64 → o + size ≤ length bytes → number_at little w bytes (o + place) ≡ Ok n →
    number_at little w (take size (drop o bytes)) (0 + place) ≡ Ok n
number_at-whole little w bytes o size place n fits small within e =
    let start : 0 + place ≡ place = omega arith in
    let at = ap (λ (j : ℕ). number little (take w (drop j (take size (drop o bytes))))) start in
    let long = length-chunk o size bytes within in
    let m = number_at-ok little w bytes (o + place) n e in
    number_at-from little w (take size (drop o bytes)) (0 + place) n (omega arith) (omega (arith, long))
    (m.2 ∙ sym (ap (number little) (part_of_part w place size o bytes fits)) ∙ sym at)

-- ---- a record

-- the parts of a read that was not refused
pub record First (little : Bool) (f : Field) (fs : List Field) (bytes : List ℕ) (o : ℕ) (ns : List ℕ) : Type 0 where
  pub found : ℕ
  pub kept : ℕ
  pub rest : List ℕ
  pub number : number_at little f.width bytes (o + f.place) ≡ Ok found
  pub version : field_value f.version found ≡ Ok kept
  pub others : numbers_at little fs bytes o ≡ Ok rest
  pub all : kept ∷ rest ≡ ns

pub first_of_all : (little : Bool) (f : Field) (fs : List Field) (bytes : List ℕ) (o : ℕ) (ns : List ℕ) →
    numbers_at little (f ∷ fs) bytes o ≡ Ok ns → First little f fs bytes o ns
unfolding numbers_at
first_of_all little f fs bytes o ns e =
    let rest : ℕ → Result (List ℕ) ParseError = λ n. numbers_at little fs bytes o >>= λ ns'. Ok (n ∷ ns') in
    let m = bind-ok {A = ℕ} {B = List ℕ} (number_at little f.width bytes (o + f.place))
    (λ x. field_value f.version x >>= rest) ns e in
    let a = bind-ok {A = ℕ} {B = List ℕ} (field_value f.version m.0) rest ns m.2 in
    let b = bind-ok {A = List ℕ} {B = List ℕ} (numbers_at little fs bytes o) (λ ns'. Ok (a.0 ∷ ns')) ns a.2 in
    record { found = m.0; kept = a.0; rest = b.0; number = m.1; version = a.1; others = b.1; all = cc }

within_from : (little : Bool) (fs : List Field) (bytes : List ℕ) (o : ℕ) (ns : List ℕ) → o ≤ length bytes →
    numbers_at little fs bytes o ≡ Ok ns → o + size_of fs ≤ length bytes
unfolding numbers_at
within_from little [] bytes o ns start e = omega arith
within_from little (f ∷ fs) bytes o ns start e =
    let m = first_of_all little f fs bytes o ns e in
    let k = number_at-ok little f.width bytes (o + f.place) m.found m.number in
    omega (arith, within_from little fs bytes o m.rest start m.others)

pub numbers_at-within : (little : Bool) (fs : List Field) (bytes : List ℕ) (o : ℕ) (ns : List ℕ) → 0 < size_of fs →
    numbers_at little fs bytes o ≡ Ok ns → o + size_of fs ≤ length bytes
unfolding numbers_at
numbers_at-within little [] bytes o ns some e = absurd (omega arith)
numbers_at-within little (f ∷ fs) bytes o ns some e =
    let m = first_of_all little f fs bytes o ns e in
    let k = number_at-ok little f.width bytes (o + f.place) m.found m.number in
    within_from little (f ∷ fs) bytes o ns (omega arith) e

pub numbers_end-ok : (little : Bool) (size : ℕ) (fs : List Field) (bytes : List ℕ) (o : ℕ) (ns : List ℕ) →
    numbers_at little fs bytes o ≡ Ok ns → numbers_end little size fs bytes o ≡ o + size
unfolding numbers_at numbers_end
numbers_end-ok little size [] bytes o ns e = refl
numbers_end-ok little size (f ∷ fs) bytes o ns e =
    let m = first_of_all little f fs bytes o ns e in
    rw (m.number, m.version) (numbers_end-ok little size fs bytes o m.rest m.others)

pub numbers_at-same : (little : Bool) (fs : List Field) (bytes others : List ℕ) (o p size : ℕ) (ns ms : List ℕ) →
    size_of fs ≤ size → take size (drop o bytes) ≡ take size (drop p others) → numbers_at little fs bytes o ≡ Ok ns →
    numbers_at little fs others p ≡ Ok ms → ns ≡ ms
unfolding numbers_at
numbers_at-same little [] bytes others o p size ns ms fits same e d = cc
numbers_at-same little (f ∷ fs) bytes others o p size ns ms fits same e d =
    let a = first_of_all little f fs bytes o ns e in
    let b = first_of_all little f fs others p ms d in
    let found : a.found ≡ b.found =
    number_at-same little f.width bytes others o p size f.place a.found b.found (omega arith) same a.number b.number in
    let kept : a.kept ≡ b.kept = cc (a.version, b.version, found) in
    let rest : a.rest ≡ b.rest =
    numbers_at-same little fs bytes others o p size a.rest b.rest (omega arith) same a.others b.others in
    cc (a.all, b.all, kept, rest)

pub numbers_at-part : (little : Bool) (fs : List Field) (bytes : List ℕ) (o size : ℕ) (ns : List ℕ) → size_of fs ≤ size →
    o + size < 2 ^ 64 → o + size ≤ length bytes → numbers_at little fs (take size (drop o bytes)) 0 ≡ Ok ns →
    numbers_at little fs bytes o ≡ Ok ns
unfolding numbers_at
numbers_at-part little [] bytes o size ns fits small within e = e
numbers_at-part little (f ∷ fs) bytes o size ns fits small within e =
    let m = first_of_all little f fs (take size (drop o bytes)) 0 ns e in
    let here =
    number_at-part little f.width bytes o size f.place m.found (omega arith) small within m.number in
    let there = numbers_at-part little fs bytes o size m.rest (omega arith) small within m.others in
    rw (here, m.version, there, m.all) refl

pub numbers_at-whole : (little : Bool) (fs : List Field) (bytes : List ℕ) (o size : ℕ) (ns : List ℕ) → size_of fs ≤ size →
    o + size < 2 ^ 64 → o + size ≤ length bytes → numbers_at little fs bytes o ≡ Ok ns →
    numbers_at little fs (take size (drop o bytes)) 0 ≡ Ok ns
unfolding numbers_at
numbers_at-whole little [] bytes o size ns fits small within e = e
numbers_at-whole little (f ∷ fs) bytes o size ns fits small within e =
    let m = first_of_all little f fs bytes o ns e in
    let here =
    number_at-whole little f.width bytes o size f.place m.found (omega arith) small within m.number in
    let there = numbers_at-whole little fs bytes o size m.rest (omega arith) small within m.others in
    rw (here, m.version, there, m.all) refl

-- no field has a value that it must have
abbrev pub is_free : List Field → Bool
is_free [] = true
is_free (f ∷ fs) = is_none f.version && is_free fs

free_field : (version : Option ℕ) (n : ℕ) → is_none version ≡ true → field_value version n ≡ Ok n
free_field None n e = refl
free_field (Some version) n e = cc

pub numbers_at-read : (little : Bool) (fs : List Field) (bytes : List ℕ) (o : ℕ) → is_free fs ≡ true →
    o + size_of fs < 2 ^ 64 → o + size_of fs ≤ length bytes → (ns : List ℕ) × (numbers_at little fs bytes o ≡ Ok ns)
unfolding numbers_at
numbers_at-read little [] bytes o free small within = ([], refl)
numbers_at-read little (f ∷ fs) bytes o free small within =
    let both = and_true (is_none f.version) (is_free fs) free in
    let n = number little (take f.width (drop (o + f.place) bytes)) in
    let here = number_at-from little f.width bytes (o + f.place) n (omega arith) (omega arith) refl in
    let version = free_field f.version n both.0 in
    let there = numbers_at-read little fs bytes o both.1 (omega arith) (omega arith) in
    (n ∷ there.0, rw (here, version, there.1) refl)

-- ---- the laws of a type of records that has a layout

pub within_by : {A : Type 0} (layout : Layout A) → ((class : Class) → 1 ≤ size_by layout class) →
    ReadsWithin (size_by layout) (record_by layout) (offset_by layout)
within_by layout some little class bytes o x e =
    let m = ok_map-ok (layout.make class) (numbers_at little (layout.fields class) bytes o) x e in
    let h : 1 ≤ size_by layout class = some class in (
      numbers_at-within little (layout.fields class) bytes o m.0 (omega arith) m.1,
      numbers_end-ok little (size_by layout class) (layout.fields class) bytes o m.0 m.1,
    )

pub only_by : {A : Type 0} (layout : Layout A) → ReadsOnly (size_by layout) (record_by layout)
only_by layout little class bytes others o p x y e d same =
    let m = ok_map-ok (layout.make class) (numbers_at little (layout.fields class) bytes o) x e in
    let n = ok_map-ok (layout.make class) (numbers_at little (layout.fields class) others p) y d in
    sym m.2 ∙ ap (layout.make class)
    (numbers_at-same little (layout.fields class) bytes others o p (size_by layout class) m.0 n.0 (omega arith) same
    m.1 n.1)
    ∙ n.2

pub locally_by : {A : Type 0} (layout : Layout A) → ReadsLocally (size_by layout) (record_by layout)
locally_by layout little class bytes o x small within =
    let size = size_by layout class in
    let fields = layout.fields class in
    let own = take size (drop o bytes) in (
      λ e.
          let m = ok_map-ok (layout.make class) (numbers_at little fields own 0) x e in
          rw (numbers_at-part little fields bytes o size m.0 (omega arith) small within m.1, m.2) refl,
      λ e.
          let m = ok_map-ok (layout.make class) (numbers_at little fields bytes o) x e in
          rw (numbers_at-whole little fields bytes o size m.0 (omega arith) small within m.1, m.2) refl,
    )

-- ---- a type of records by its field tables

-- a record has a byte, in either class
abbrev pub has_size : {A : Type 0} → Layout A → Bool
has_size layout = nat_lt 0 (size_by layout ELF32) && nat_lt 0 (size_by layout ELF64)

some : (n : ℕ) → nat_lt 0 n ≡ true → 1 ≤ n
some n e = grind (arith, common_steps)

pub some_by : {A : Type 0} (layout : Layout A) → has_size layout ≡ true → (class : Class) → 1 ≤ size_by layout class
some_by layout sized ELF32 =
    some (size_by layout ELF32) (and_true (nat_lt 0 (size_by layout ELF32)) (nat_lt 0 (size_by layout ELF64)) sized).0
some_by layout sized ELF64 =
    some (size_by layout ELF64) (and_true (nat_lt 0 (size_by layout ELF32)) (nat_lt 0 (size_by layout ELF64)) sized).1

abbrev pub by_layout : {A : Type 0} (layout : Layout A) → has_size layout ≡ true → RecordType A
by_layout layout sized = record {
  size = size_by layout;
  record_at = record_by layout;
  offset_after = offset_by layout;
  some_size = some_by layout sized;
  within = within_by layout (some_by layout sized);
  only = only_by layout;
  local = true;
  locally = λ _. locally_by layout;
}

-- ---- a type of records that has no versions

abbrev pub is_plain : {A : Type 0} → Layout A → Bool
is_plain layout = is_free (layout.fields ELF32) && is_free (layout.fields ELF64)

free_by : {A : Type 0} (layout : Layout A) → is_plain layout ≡ true → (class : Class) →
    is_free (layout.fields class) ≡ true
free_by layout plain ELF32 = (and_true (is_free (layout.fields ELF32)) (is_free (layout.fields ELF64)) plain).0
free_by layout plain ELF64 = (and_true (is_free (layout.fields ELF32)) (is_free (layout.fields ELF64)) plain).1

pub wherever_by : {A : Type 0} (layout : Layout A) → is_plain layout ≡ true →
    ReadsWherever (size_by layout) (record_by layout)
wherever_by layout plain little class bytes o small within =
    let m = numbers_at-read little (layout.fields class) bytes o (free_by layout plain class) small within in
    rw m.1 refl
