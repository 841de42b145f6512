-- Packed field tables, each of whose fields begins where the one before it ends: their record is also read by an offset that moves, as the code reads it.
use Rattle.std.proofs.Common.{◌≡◌, ℕ, ◌+◌, Bool, true, List, [], ◌∷◌, max, cond, nat_eq, ◌&&◌, Result, Ok, Err, is_ok, refl, ap, sym, ◌∙◌, arith}
use Rattle.std.proofs.lemmas.Grind.{common_steps}
use Rattle.elf_records.specs.declared.parse.ParseError.{ParseError}
use Rattle.elf_records.specs.Number.{number_at}
use Rattle.elf_records.specs.Record.{Field, size_of, field_value, numbers_at, after_field, numbers_end}
use Rattle.elf_records.specs.inner.Running.{numbers_from, next_offset, offset_from}
use Rattle.elf_records.specs.inner.RecordLaws.{and_true}

-- the fields begin at this place, and each where the one before it ends
abbrev pub is_packed : ℕ → List Field → Bool
is_packed place [] = true
is_packed place (f ∷ fs) = nat_eq f.place place && is_packed (place + f.width) fs

same_place : (a b : ℕ) → nat_eq a b ≡ true → a ≡ b
same_place a b e = grind (arith, common_steps)

packed_at : (little : Bool) (fs : List Field) (bytes : List ℕ) (o place at : ℕ) → at ≡ o + place → is_packed place fs ≡ true → numbers_at little fs bytes o ≡ numbers_from little fs bytes at
unfolding numbers_at
packed_at little [] bytes o place at e p = refl
packed_at little (f ∷ fs) bytes o place at e p =
    let both = and_true (nat_eq f.place place) (is_packed (place + f.width) fs) p in
    let here = same_place f.place place both.0 in
    let start : o + f.place ≡ at = omega arith in
    let rest = packed_at little fs bytes o (place + f.width) (at + f.width) (omega arith) both.1 in
    rw (start, rest) refl

pub numbers_at-packed : (little : Bool) (fs : List Field) (bytes : List ℕ) (o : ℕ) → is_packed 0 fs ≡ true → numbers_at little fs bytes o ≡ numbers_from little fs bytes o
numbers_at-packed little fs bytes o p = packed_at little fs bytes o 0 o (omega arith) p

after_field-from : (o at : ℕ) (f : Field) (r : Result ℕ ParseError) (next : ℕ) → at ≡ o + f.place → after_field o f r next ≡ next_offset at f r next
after_field-from o at f (Err d) next e = sym e
after_field-from o at f (Ok x) next e = ap (λ (n : ℕ). cond (is_ok (field_value f.version x)) next (n + f.width)) (sym e)

packed_offset : (little : Bool) (size : ℕ) (fs : List Field) (bytes : List ℕ) (o place at : ℕ) → at ≡ o + place → size ≡ max place (size_of fs) → is_packed place fs ≡ true → numbers_end little size fs bytes o ≡ offset_from little fs bytes at
unfolding numbers_end
packed_offset little size [] bytes o place at e all p = omega arith
packed_offset little size (f ∷ fs) bytes o place at e all p =
    let both = and_true (nat_eq f.place place) (is_packed (place + f.width) fs) p in
    let here = same_place f.place place both.0 in
    let start : o + f.place ≡ at = omega arith in
    let rest = packed_offset little size fs bytes o (place + f.width) (at + f.width) (omega arith) (omega arith) both.1 in
    ap (λ (next : ℕ). after_field o f (number_at little f.width bytes (o + f.place)) next) rest
    ∙ ap (λ (n : ℕ). after_field o f (number_at little f.width bytes n) (offset_from little fs bytes (at + f.width))) start
    ∙ after_field-from o at f (number_at little f.width bytes at) (offset_from little fs bytes (at + f.width)) (sym start)

pub numbers_end-packed : (little : Bool) (fs : List Field) (bytes : List ℕ) (o : ℕ) → is_packed 0 fs ≡ true → numbers_end little (size_of fs) fs bytes o ≡ offset_from little fs bytes o
numbers_end-packed little fs bytes o p = packed_offset little (size_of fs) fs bytes o 0 o (omega arith) (omega arith) p
