-- Where the records of a table lie: record i of the list is the record at the place i * size.
use Rattle.std.proofs.Common.{◌≡◌, ◌↔◌, ℕ, zero, suc, ◌+◌, ◌*◌, ◌/◌, ◌^◌, ◌<◌, ◌≤◌, List, [], ◌∷◌, length, None, Some, Result, Ok, Err, refl, ap, sym, ◌∙◌, inl, inr, arith}
use Rattle.std.specs.Result.{IsOk, result_ok}
use Rattle.std.specs.List.{slice_get}
use Rattle.std.proofs.Math.Nat.{suc-mul, div-lt_iff_lt-mul, mul-le-mul_right}
use Rattle.std.proofs.lemmas.Bool.{cases_lt}
use Rattle.std.proofs.lemmas.Option.{slice_get_past}
use Rattle.std.proofs.lemmas.Grind.{common_steps}
use Rattle.elf_records.specs.declared.parse.ParseError.{ParseError}
use Rattle.elf_records.specs.Table.{item_at, items, items_from, unless_refused}
use Rattle.elf_records.proofs.Items.{LiesWithin}

-- where a record cannot lie, none is read
none_past : {A : Type 0} (gives : List ℕ → ℕ → Result A ParseError) (size : ℕ) (bytes : List ℕ) (o : ℕ) (r : Result A ParseError) → LiesWithin gives size → length bytes < o + size → gives bytes o ≡ r → result_ok r ≡ None
none_past gives size bytes o (Ok x) law end e = absurd (omega (arith, law.within bytes o x e))
none_past gives size bytes o (Err d) law end e = refl

-- the same, one record further
place_step : {A : Type 0} (gives : List ℕ → ℕ → Result A ParseError) (size : ℕ) (bytes : List ℕ) (o : ℕ) (rest : List A) → ((j : ℕ) → j ≤ length rest → slice_get rest j ≡ result_ok (gives bytes (o + size + j * size))) → (r : Result A ParseError) → gives bytes o ≡ r → (i : ℕ) → i ≤ length (unless_refused r rest) → slice_get (unless_refused r rest) i ≡ result_ok (gives bytes (o + i * size))
place_step gives size bytes o rest behind (Ok x) e zero within =
    let here : o + 0 * size ≡ o = omega arith in sym (ap (λ p. result_ok (gives bytes p)) here ∙ ap result_ok e)
place_step gives size bytes o rest behind (Ok x) e (suc j) within =
    let there : o + size + j * size ≡ o + suc j * size = omega (arith, suc-mul j size) in
    behind j (omega arith) ∙ ap (λ p. result_ok (gives bytes p)) there
place_step gives size bytes o rest behind (Err d) e zero within =
    let here : o + 0 * size ≡ o = omega arith in sym (ap (λ p. result_ok (gives bytes p)) here ∙ ap result_ok e)
place_step gives size bytes o rest behind (Err d) e (suc j) within = absurd (omega arith)

-- record i from o on is what is read at o + i * size; at the end of the list nothing is
pub slice_get-items_from : {A : Type 0} (gives : List ℕ → ℕ → Result A ParseError) (size : ℕ) (bytes : List ℕ) → LiesWithin gives size → (n i o : ℕ) → length bytes ≤ o + n → i ≤ length (items_from gives size n bytes o) → slice_get (items_from gives size n bytes o) i ≡ result_ok (gives bytes (o + i * size))
slice_get-items_from gives size bytes law zero zero o enough within =
    let some = law.some in sym (none_past gives size bytes (o + 0 * size) (gives bytes (o + 0 * size)) law (omega arith) refl)
slice_get-items_from gives size bytes law zero (suc i) o enough within = absurd (omega arith)
slice_get-items_from gives size bytes law (suc n) i o enough within =
    let some = law.some in
    place_step gives size bytes o (items_from gives size n bytes (o + size)) (λ j below. slice_get-items_from gives size bytes law n j (o + size) (omega arith) below) (gives bytes o) refl i within

-- the records of the list lie in the bytes
room_step : {A : Type 0} (gives : List ℕ → ℕ → Result A ParseError) (size : ℕ) (bytes : List ℕ) (o : ℕ) (rest : List A) → LiesWithin gives size → o ≤ length bytes → (o + size ≤ length bytes → o + size + length rest * size ≤ length bytes) → (r : Result A ParseError) → gives bytes o ≡ r → o + length (unless_refused r rest) * size ≤ length bytes
room_step gives size bytes o rest law start behind (Ok x) e =
    let w = law.within bytes o x e in omega (arith, behind w, suc-mul (length rest) size)
room_step gives size bytes o rest law start behind (Err d) e = omega arith

length-items_from : {A : Type 0} (gives : List ℕ → ℕ → Result A ParseError) (size : ℕ) (bytes : List ℕ) → LiesWithin gives size → (n o : ℕ) → o ≤ length bytes → o + length (items_from gives size n bytes o) * size ≤ length bytes
length-items_from gives size bytes law zero o start = omega arith
length-items_from gives size bytes law (suc n) o start =
    room_step gives size bytes o (items_from gives size n bytes (o + size)) law start (λ w. length-items_from gives size bytes law n (o + size) w) (gives bytes o) refl

item_within : {A : Type 0} (gives : List ℕ → ℕ → Result A ParseError) (size : ℕ) (bytes : List ℕ) (i : ℕ) → LiesWithin gives size → length bytes < 2 ^ 64 → i * size ≤ length bytes → result_ok (item_at gives size bytes i) ≡ result_ok (gives bytes (i * size))
item_within gives size [] i law small within =
    let some = law.some in sym (none_past gives size [] (i * size) (gives [] (i * size)) law (omega arith) refl)
item_within gives size (b ∷ bytes) i law small within = grind (arith, common_steps)

-- the list of records is the longest list of what `get` gives at 0, 1 and so on
pub slice_get-items : {A : Type 0} (gives : List ℕ → ℕ → Result A ParseError) (size : ℕ) (bytes : List ℕ) (i : ℕ) → LiesWithin gives size → length bytes < 2 ^ 64 → i ≤ length (items gives size bytes) → slice_get (items gives size bytes) i ≡ result_ok (item_at gives size bytes i)
slice_get-items gives size bytes i law small within =
    let here : 0 + i * size ≡ i * size = omega arith in
    let room = length-items_from gives size bytes law (length bytes) 0 (omega arith) in
    let fits : i * size ≤ length (items gives size bytes) * size = mul-le-mul_right size within in
    slice_get-items_from gives size bytes law (length bytes) i 0 (omega arith) within
    ∙ ap (λ p. result_ok (gives bytes p)) here
    ∙ sym (item_within gives size bytes i law small (omega arith))

-- ---- records that are read wherever their bytes lie

ok_some : {A : Type 0} (r : Result A ParseError) → IsOk r → (x : A) × (r ≡ Ok x)
ok_some (Ok x) h = (x, refl)
ok_some (Err e) h = cc

item_ok : {A : Type 0} (gives : List ℕ → ℕ → Result A ParseError) (size : ℕ) (bytes : List ℕ) (i : ℕ) (x : A) → item_at gives size bytes i ≡ Ok x → gives bytes (i * size) ≡ Ok x
item_ok gives size bytes i x e = grind (arith, common_steps)

item_read : {A : Type 0} (gives : List ℕ → ℕ → Result A ParseError) (size : ℕ) (bytes : List ℕ) (i : ℕ) → 1 ≤ size → length bytes < 2 ^ 64 → i * size + size ≤ length bytes → IsOk (gives bytes (i * size)) → IsOk (item_at gives size bytes i)
item_read gives size [] i some small within h = absurd (omega arith)
item_read gives size (b ∷ bytes) i some small within h = grind (arith, common_steps)

-- i is below a quotient exactly where i + 1 times the divisor is within the dividend
below_forth : (i size n : ℕ) → 0 < size → i * size + size ≤ n → i < n / size
below_forth i size n some within =
    elim (cases_lt i (n / size)) [
      | inl h ↦ h
      | inr h ↦ let least : n < suc i * size = (div-lt_iff_lt-mul {k = size} {x = n} {y = suc i} some).0 (omega arith) in absurd (omega (arith, least, suc-mul i size))
    ]

below_back : (i size n : ℕ) → 0 < size → i < n / size → i * size + size ≤ n
below_back i size n some h =
    elim (cases_lt n (suc i * size)) [
      | inl less ↦ let low : n / size < suc i = (div-lt_iff_lt-mul {k = size} {x = n} {y = suc i} some).1 less in absurd (omega arith)
      | inr more ↦ omega (arith, more, suc-mul i size)
    ]

pub item_at-below : {A : Type 0} (gives : List ℕ → ℕ → Result A ParseError) (size : ℕ) (bytes : List ℕ) (i : ℕ) → LiesWithin gives size → ((o : ℕ) → o + size < 2 ^ 64 → o + size ≤ length bytes → IsOk (gives bytes o)) → length bytes < 2 ^ 64 → IsOk (item_at gives size bytes i) ↔ (i < length bytes / size)
item_at-below gives size bytes i law wherever small =
    let some : 0 < size = omega (arith, law.some) in
    let forth : IsOk (item_at gives size bytes i) → i < length bytes / size =
    λ h. let found = ok_some (item_at gives size bytes i) h in
    below_forth i size (length bytes) some (law.within bytes (i * size) found.0 (item_ok gives size bytes i found.0 found.1)) in
    let back : i < length bytes / size → IsOk (item_at gives size bytes i) =
    λ h. let w = below_back i size (length bytes) some h in
    item_read gives size bytes i law.some small w (wherever (i * size) (omega arith) w) in
    (forth, back)

-- ---- both together: of such records the list has at each place what `get` gives

none_unless_ok : {A : Type 0} (r : Result A ParseError) → (IsOk r → ⊥) → result_ok r ≡ None
none_unless_ok (Ok x) h = absurd (h refl)
none_unless_ok (Err e) h = refl

not_ok : {A : Type 0} (r : Result A ParseError) → result_ok r ≡ None → IsOk r → ⊥
not_ok (Ok x) none h = cc
not_ok (Err e) none h = cc

ok_of_some : {A : Type 0} (r : Result A ParseError) (x : A) → result_ok r ≡ Some x → IsOk r
ok_of_some (Ok y) x h = refl
ok_of_some (Err e) x h = cc

slice_get_inside : {A : Type 0} (xs : List A) (i : ℕ) → i < length xs → (x : A) × (slice_get xs i ≡ Some x)
slice_get_inside [] i h = absurd (omega arith)
slice_get_inside (x ∷ xs) zero h = (x, refl)
slice_get_inside (x ∷ xs) (suc i) h = slice_get_inside xs i (omega arith)

pub slice_get-plain : {A : Type 0} (gives : List ℕ → ℕ → Result A ParseError) (size : ℕ) (bytes : List ℕ) (i : ℕ) → LiesWithin gives size → ((o : ℕ) → o + size < 2 ^ 64 → o + size ≤ length bytes → IsOk (gives bytes o)) → length bytes < 2 ^ 64 → slice_get (items gives size bytes) i ≡ result_ok (item_at gives size bytes i)
slice_get-plain gives size bytes i law wherever small =
    let n = length (items gives size bytes) in
    let end : result_ok (item_at gives size bytes n) ≡ None = sym (slice_get-items gives size bytes n law small (omega arith)) ∙ slice_get_past (items gives size bytes) n (omega arith) in
    elim (cases_lt n i) [
      | inl past ↦
          let refused : IsOk (item_at gives size bytes i) → ⊥ =
          λ h. let below = (item_at-below gives size bytes i law wherever small).0 h in
          not_ok (item_at gives size bytes n) end ((item_at-below gives size bytes n law wherever small).1 (omega arith)) in
          slice_get_past (items gives size bytes) i (omega arith) ∙ sym (none_unless_ok (item_at gives size bytes i) refused)
      | inr within ↦ slice_get-items gives size bytes i law small within
    ]

-- as many are in the list as fit
pub length-plain : {A : Type 0} (gives : List ℕ → ℕ → Result A ParseError) (size : ℕ) (bytes : List ℕ) → LiesWithin gives size → ((o : ℕ) → o + size < 2 ^ 64 → o + size ≤ length bytes → IsOk (gives bytes o)) → length bytes < 2 ^ 64 → length (items gives size bytes) ≡ length bytes / size
length-plain gives size bytes law wherever small =
    let n = length (items gives size bytes) in
    let m = length bytes / size in
    let refused_at : (i : ℕ) → slice_get (items gives size bytes) i ≡ None → i < m → ⊥ =
    λ i none below. not_ok (item_at gives size bytes i) (sym (slice_get-plain gives size bytes i law wherever small) ∙ none) ((item_at-below gives size bytes i law wherever small).1 below) in
    let given_at : (i : ℕ) (x : _) → slice_get (items gives size bytes) i ≡ Some x → i < m =
    λ i x some. (item_at-below gives size bytes i law wherever small).0 (ok_of_some (item_at gives size bytes i) x (sym (slice_get-plain gives size bytes i law wherever small) ∙ some)) in
    elim (cases_lt n m) [
      | inl fewer ↦ absurd (refused_at n (slice_get_past (items gives size bytes) n (omega arith)) fewer)
      | inr enough ↦ elim (cases_lt m n) [
        | inl more ↦ let there = slice_get_inside (items gives size bytes) m more in let least = given_at m there.0 there.1 in absurd (omega (arith, least))
        | inr most ↦ omega (arith, enough, most)
      ]
    ]
