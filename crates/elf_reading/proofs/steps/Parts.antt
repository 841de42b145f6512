-- A record read from a part of its own.
use Rattle.std.proofs.Common.{◌≡◌, ℕ, ◌+◌, ◌-◌, ◌<◌, ◌≤◌, Bool, List, length, take, drop, refl, sym, ap, ◌∙◌, subst, arith, Option, Some, None, IfSome, length-take, length-drop}
use Rattle.std.specs.Prelude.{◌^◌, Result, Ok, Err, IsErr, IsOk, ◌==◌, ◌*◌, if◌then◌else◌, true, false}
use Rattle.std.proofs.lemmas.List.{take-take}
use Rattle.elf_records.specs.Number.{bytes_at}
use Rattle.elf_records.specs.Record.{◌>>=◌, ReadsWherever, RecordType}
use Rattle.elf_records.specs.declared.file.Class.{Class}
use Rattle.elf_records.specs.declared.parse.ParseError.{ParseError}
use Rattle.elf_reading.proofs.steps.Chains.{AreAlike}
use Rattle.elf_reading.proofs.steps.Ranges.{one_value, read_past, read_within, read_is_within, read_past_64}
use Rattle.elf_reading.specs.Opening.{table_bytes}
use Rattle.elf_reading.specs.inner.HeaderSteps.{range_bytes}
use Rattle.elf_records.specs.declared.parse.ParseError.TheVariants.{BadEntsize}
use Rattle.std.proofs.lemmas.Bool.Decides.{nat_tests}
use Rattle.elf_reading.proofs.steps.Ranges.{not_ok, refused_not}

pub ok_value : {A E : Type 0} (x : Result A E) → IsOk x → (a : A) × (x ≡ Ok a)
ok_value (Ok a) h = (a, refl)
ok_value (Err e) h = cc

ok_from : {A E : Type 0} (x : Result A E) (a : A) → x ≡ Ok a → IsOk x
ok_from x a h = subst (λ z. IsOk z) (sym h) refl

clash : {A E : Type 0} (e : E) (a : A) → Err e ≡ Ok a → ⊥
clash e a h = cc

part_length : (bytes : List ℕ) (o size : ℕ) → o + size ≤ length bytes → length (take size (drop o bytes)) ≡ size
part_length bytes o size within = simp (length-take, length-drop) (omega arith)

part_by : {A : Type 0} (reads : RecordType A) → ReadsWherever reads.size reads.record_at
    → (little : Bool) (class : Class) (bytes : List ℕ) (o : ℕ) → length bytes < 2 ^ 64 → (r : Result (List ℕ) ParseError) → bytes_at (reads.size class) bytes o ≡ r → AreAlike (reads.record_at little class bytes o) (r >>= λ part. reads.record_at little class part 0)
part_by reads wherever little class bytes o short (Err e) is = record {
  value = λ a h. absurd (clash e a h);
  refused = λ _. not_ok (reads.record_at little class bytes o) (λ ok.
      let x = ok_value (reads.record_at little class bytes o) ok in
      let fits : o + reads.size class ≤ length bytes = (reads.within little class bytes o x.0 x.1).0 in
      let low : o + reads.size class < 2 ^ 64 = omega arith in
      clash e (take (reads.size class) (drop o bytes)) (sym is ∙ read_within bytes o (reads.size class) low fits));
}
part_by reads wherever little class bytes o short (Ok part) is =
    let low = read_is_within bytes o (reads.size class) (ok_from (bytes_at (reads.size class) bytes o) part is) in
    let same : part ≡ take (reads.size class) (drop o bytes) = one_value (bytes_at (reads.size class) bytes o) part (take (reads.size class) (drop o bytes)) is (read_within bytes o (reads.size class) low.0 low.1) in
    let long : length part ≡ reads.size class = ap length same ∙ part_length bytes o (reads.size class) low.1 in
    let zero : 0 + reads.size class < 2 ^ 64 = let a = low.0 in omega arith in
    let fits : 0 + reads.size class ≤ length part = omega arith in
    let here = ok_value (reads.record_at little class bytes o) (wherever little class bytes o low.0 low.1) in
    let front = ok_value (reads.record_at little class part 0) (wherever little class part 0 zero fits) in
    let bytes_same : take (reads.size class) (drop o bytes) ≡ take (reads.size class) (drop 0 part) = sym (ap (take (reads.size class)) same ∙ take-take (reads.size class) (reads.size class) (drop o bytes) (omega arith)) in
    record {
      value = λ a h. here.1 ∙ ap Ok (reads.only little class bytes part o 0 here.0 a here.1 h bytes_same);
      refused = λ h. absurd (refused_not (reads.record_at little class part 0) h (ok_from (reads.record_at little class part 0) front.0 front.1));
    }

pub in_part : {A : Type 0} (reads : RecordType A) → ReadsWherever reads.size reads.record_at
    → (known : Option (List ℕ)) (len n : ℕ) (little : Bool) (class : Class) (o : ℕ) → IfSome known (λ bytes. len ≡ length bytes) → len < 2 ^ 64 → n ≡ reads.size class
    → IfSome known (λ bytes. AreAlike (reads.record_at little class bytes o) (bytes_at n bytes o >>= λ part. reads.record_at little class part 0))
in_part reads wherever None len n little class o whole short is = tt
in_part reads wherever (Some bytes) len n little class o whole short is =
    subst (λ n. AreAlike (reads.record_at little class bytes o) (bytes_at n bytes o >>= λ part. reads.record_at little class part 0)) (sym is)
    (part_by reads wherever little class bytes o (omega arith) (bytes_at (reads.size class) bytes o) refl)

-- ---- records at an offset, whose size is the one that the file header gives

got_is : (size entsize got : ℕ) → Ok got ≡ (if entsize == size then Ok entsize else Err (BadEntsize (entsize, size))) → ((entsize == size) ≡ true) × (got ≡ size)
got_is size entsize got =
    (elim (entsize == size) as (λ b. (entsize == size) ≡ b → Ok got ≡ (if b then Ok entsize else Err (BadEntsize (entsize, size))) → (b ≡ true) × (got ≡ size)) [
      | true ↦ λ test is. let a : got ≡ entsize = cc in let b : entsize ≡ size = grind (arith, nat_tests) in (refl, a ∙ b)
      | false ↦ λ test is. cc
    ]) refl

table_bytes_of : (bytes : List ℕ) (size entsize count offset got : ℕ) → Ok got ≡ (if entsize == size then Ok entsize else Err (BadEntsize (entsize, size))) → table_bytes size entsize count offset bytes ≡ bytes_at (got * count) bytes offset
table_bytes_of bytes size entsize count offset got given =
    let is = got_is size entsize got given in
    rw is.0 (ap (λ n. bytes_at (n * count) bytes offset) (sym is.1))

pub records_past_64 : (bytes : List ℕ) (size entsize count offset got : ℕ) → Ok got ≡ (if entsize == size then Ok entsize else Err (BadEntsize (entsize, size))) → 2 ^ 64 ≤ offset + got * count → IsErr (table_bytes size entsize count offset bytes)
records_past_64 bytes size entsize count offset got given past =
    subst (λ z. IsErr z) (sym (table_bytes_of bytes size entsize count offset got given)) (read_past_64 bytes offset (got * count) past)

pub records_past : (bytes : List ℕ) (size entsize count offset got : ℕ) → Ok got ≡ (if entsize == size then Ok entsize else Err (BadEntsize (entsize, size))) → length bytes < offset + got * count → IsErr (table_bytes size entsize count offset bytes)
records_past bytes size entsize count offset got given past =
    subst (λ z. IsErr z) (sym (table_bytes_of bytes size entsize count offset got given)) (read_past bytes offset (got * count) past)

pub records_there : (bytes : List ℕ) (size entsize count offset got end : ℕ) → Ok got ≡ (if entsize == size then Ok entsize else Err (BadEntsize (entsize, size))) → end ≡ offset + got * count → end < 2 ^ 64 → end ≤ length bytes → table_bytes size entsize count offset bytes ≡ Ok (range_bytes bytes (offset, end))
records_there bytes size entsize count offset got end given to low within =
    let long : got * count ≡ end - offset = omega (arith, to) in
    table_bytes_of bytes size entsize count offset got given ∙ read_within bytes offset (got * count) (omega (arith, to)) (omega (arith, to)) ∙ ap (λ n. Ok (take n (drop offset bytes))) long
