-- A record that lies in the bytes in part, or not at all, has the error that the part of it has, moved by its offset.
use Rattle.std.proofs.Common.{◌≡◌, ℕ, ◌+◌, ◌-◌, ◌<◌, ◌≤◌, ◌==◌, ◌&&◌, ◌^◌, Bool, true, false, List, [], ◌∷◌, length, take, drop, refl, sym, ap, ◌∙◌, arith, Option, Some, None, Result, Ok, Err}
use Rattle.std.proofs.lemmas.Grind.{common_steps}
use Rattle.std.proofs.lemmas.Bool.Decides.{nat_tests}
use Rattle.std.proofs.lemmas.Simd.{length-chunk}
use Rattle.std.specs.Prelude.{if◌then◌else◌, min, nat_le, nat_lt}
use Rattle.elf_records.specs.Number.{bytes_at, number, number_at, ok_map}
use Rattle.elf_records.specs.Record.{Field, Layout, field_value, numbers_at, record_by, size_by, size_of, ◌>>=◌}
use Rattle.elf_records.specs.inner.RecordLaws.{and_true, bytes_at-from, part_of_part}
use Rattle.elf_records.specs.declared.file.Class.{Class}
use Rattle.elf_records.specs.declared.parse.ParseError.TheVariants.{IntegerOverflow, SliceReadError, UnsupportedVersion}
use Rattle.elf.specs.ObjectFile.{err_map}
use Rattle.elf_c.specs.inner.Steps.{moved}

-- ---- results whose errors are moved

mapped : {A B E X : Type 0} (to : E → X) (f : A → B) (r : Result A E) → ok_map f (err_map to r) ≡ err_map to (ok_map f r)
mapped to f (Ok x) = refl
mapped to f (Err e) = refl

bound : {A B E X : Type 0} (to : E → X) (x : Result A X) (y : Result A E) (f : A → Result B X) (g : A → Result B E) → x ≡ err_map to y → ((a : A) → f a ≡ err_map to (g a)) → (x >>= f) ≡ err_map to (y >>= g)
bound to x (Ok a) f g same later = rw same (later a)
bound to x (Err e) f g same later = rw same refl

-- ---- bytes

outside : (w : ℕ) (xs : List ℕ) (o : ℕ) → o + w < 2 ^ 64 → length xs < o + w → bytes_at w xs o ≡ Err (SliceReadError (o, o + w))
unfolding bytes_at
outside w xs o small past = grind (arith, common_steps)

past_all : (w : ℕ) (xs : List ℕ) (o : ℕ) → 2 ^ 64 ≤ o + w → bytes_at w xs o ≡ Err IntegerOverflow
unfolding bytes_at
past_all w xs o past = grind (arith, common_steps)

moved_past : (o a b : ℕ) → 2 ^ 64 ≤ o + b → moved o (SliceReadError (a, b)) ≡ IntegerOverflow
moved_past o a b past = grind (arith, nat_tests, common_steps)

moved_within : (o a b : ℕ) → a ≤ b → o + b < 2 ^ 64 → moved o (SliceReadError (a, b)) ≡ SliceReadError (o + a, o + b)
moved_within o a b order small = grind (arith, nat_tests, common_steps)

-- each field has a byte
abbrev pub is_wide : List Field → Bool
is_wide [] = true
is_wide (f ∷ fs) = nat_lt 0 f.width && is_wide fs

-- what lies in the bytes of the `size` bytes at o
abbrev pub part_at : List ℕ → ℕ → ℕ → List ℕ
part_at bytes o size = take (min size (length bytes - o)) (drop (min o (length bytes)) bytes)

module _ (bytes : List ℕ) (o size : ℕ) (short : length bytes < 2 ^ 64) (small : size < 2 ^ 64) where
  abbrev part : List ℕ
  part = part_at bytes o size

  long : length part ≡ min size (length bytes - o)
  long = length-chunk (min o (length bytes)) (min size (length bytes - o)) bytes (omega arith)

  bytes_within : (place w : ℕ) → place + w ≤ size → o + place + w ≤ length bytes → bytes_at w bytes (o + place) ≡ err_map (moved o) (bytes_at w part place)
  bytes_within place w fits within =
      let front : min o (length bytes) ≡ o = omega arith in
      let cut : take w (drop place part) ≡ take w (drop (o + place) bytes)
      = ap (λ (n : ℕ). take w (drop place (take (min size (length bytes - o)) (drop n bytes)))) front
      ∙ part_of_part w place (min size (length bytes - o)) o bytes (omega arith) in
      let whole : bytes_at w bytes (o + place) ≡ Ok (take w (drop (o + place) bytes)) = bytes_at-from w bytes (o + place) (omega arith) (omega arith) in
      let here : bytes_at w part place ≡ Ok (take w (drop place part)) = bytes_at-from w part place (omega arith) (omega (arith, long)) in
      whole ∙ ap Ok (sym cut) ∙ sym (ap (err_map (moved o)) here)

  bytes_outside : (place w : ℕ) → 0 < w → place + w ≤ size → length bytes < o + place + w → bytes_at w bytes (o + place) ≡ err_map (moved o) (bytes_at w part place)
  bytes_outside place w some fits past =
      let here : bytes_at w part place ≡ Err (SliceReadError (place, place + w)) = outside w part place (omega arith) (omega (arith, long)) in
      by_size (nat_le (2 ^ 64) (o + place + w)) refl ∙ sym (ap (err_map (moved o)) here)
    where
      by_size : (b : Bool) → nat_le (2 ^ 64) (o + place + w) ≡ b → bytes_at w bytes (o + place) ≡ err_map (moved o) (Err (SliceReadError (place, place + w)))
      by_size true is =
          let far : 2 ^ 64 ≤ o + place + w = grind (arith, nat_tests) in
          past_all w bytes (o + place) far ∙ sym (ap Err (moved_past o place (place + w) (omega (arith, far))))
      by_size false is =
          let near : o + place + w < 2 ^ 64 = grind (arith, nat_tests) in
          let same : SliceReadError (o + place, o + place + w) ≡ SliceReadError (o + place, o + (place + w)) =
          ap (λ (n : ℕ). SliceReadError (o + place, n)) (omega arith) in
          outside w bytes (o + place) near past ∙ ap Err (same ∙ sym (moved_within o place (place + w) (omega arith) (omega (arith, near))))

  bytes_moved : (place w : ℕ) → 0 < w → place + w ≤ size → bytes_at w bytes (o + place) ≡ err_map (moved o) (bytes_at w part place)
  bytes_moved place w some fits = by_test (nat_lt (length bytes) (o + place + w)) refl
    where
      by_test : (b : Bool) → nat_lt (length bytes) (o + place + w) ≡ b → bytes_at w bytes (o + place) ≡ err_map (moved o) (bytes_at w part place)
      by_test true is = bytes_outside place w some fits (grind (arith, nat_tests))
      by_test false is = bytes_within place w fits (grind (arith, nat_tests))

  -- ---- a record

  number_moved : (little : Bool) (place w : ℕ) → 0 < w → place + w ≤ size → number_at little w bytes (o + place) ≡ err_map (moved o) (number_at little w part (0 + place))
  unfolding number_at
  number_moved little place w some fits =
      let start : 0 + place ≡ place = omega arith in
      rw start (ap (ok_map (number little)) (bytes_moved place w some fits) ∙ mapped (moved o) (number little) (bytes_at w part place))

  value_moved : (version : Option ℕ) (n : ℕ) → field_value version n ≡ err_map (moved o) (field_value version n)
  value_moved None n = refl
  value_moved (Some version) n = by_test (n == version)
    where
      by_test : (b : Bool) → (if b then Ok n else Err (UnsupportedVersion (n, version))) ≡ err_map (moved o) (if b then Ok n else Err (UnsupportedVersion (n, version)))
      by_test true = refl
      by_test false = refl

  numbers_moved : (little : Bool) (fs : List Field) → is_wide fs ≡ true → size_of fs ≤ size → numbers_at little fs bytes o ≡ err_map (moved o) (numbers_at little fs part 0)
  unfolding numbers_at
  numbers_moved little [] wide fits = refl
  numbers_moved little (f ∷ fs) wide fits =
      let two = and_true (nat_lt 0 f.width) (is_wide fs) wide in
      let some : 0 < f.width = grind (arith, nat_tests) in
      bound (moved o) (number_at little f.width bytes (o + f.place)) (number_at little f.width part (0 + f.place)) _ _ (number_moved little f.place f.width some (omega arith)) (λ x.
      bound (moved o) (field_value f.version x) (field_value f.version x) _ _ (value_moved f.version x) (λ n.
      bound (moved o) (numbers_at little fs bytes o) (numbers_at little fs part 0) _ _ (numbers_moved little fs two.1 (omega arith)) (λ ns. refl)))

pub record_moved : {A : Type 0} (layout : Layout A) (little : Bool) (class : Class) (bytes : List ℕ) (o : ℕ) → length bytes < 2 ^ 64 → size_by layout class < 2 ^ 64 → is_wide (layout.fields class) ≡ true →
    record_by layout little class bytes o ≡ err_map (moved o) (record_by layout little class (part_at bytes o (size_by layout class)) 0)
record_moved layout little class bytes o short small wide =
    ap (ok_map (layout.make class)) (numbers_moved bytes o (size_by layout class) short small little (layout.fields class) wide (omega arith))
    ∙ mapped (moved o) (layout.make class) (numbers_at little (layout.fields class) (part_at bytes o (size_by layout class)) 0)
