-- A call whose value is copied.
use Rattle.std.proofs.Common.{◌≡◌, ℕ, Bool, List, Result, Ok, Err, Option, Some, None, IfSome, refl, ap, sym, subst}
use Rattle.std.specs.Prelude.{IsErr}
use Rattle.std.specs.Option.{option_map}
use Rattle.elf_records.specs.Number.{ok_map}
use Rattle.elf_records.specs.declared.parse.ParseError.{ParseError}
use Rattle.elf_reading.specs.Refusals.{IsAnswer, kind}
use Rattle.elf_reading.proofs.steps.Ranges.{refused_so}
use Rattle.elf.specs.ElfStream.{Leaves, Left, StreamView}
use Rattle.elf_linking.specs.Readings.{IsCopy, LeavesCopy}

-- ---- another view of what a call found

left_viewed : {E T Z : Type 0} (requested : List (ℕ × ℕ)) (old new : StreamView E) (view : T → Z) (r : Result T ParseError) → Left requested old new r → Left requested old new (ok_map view r)
left_viewed requested old new view (Ok x) h = record { keeps = h.keeps; loaded = h.loaded; only = h.only; untouched = h.untouched; needed = h.needed }
left_viewed requested old new view (Err e) h = record { keeps = h.keeps; loaded = h.loaded; only = h.only; untouched = h.untouched; needed = h.needed }

still_err : {Y Z X : Type 0} (view : Y → Z) (answer : Result Y X) → IsErr answer → IsErr (ok_map view answer)
still_err view (Ok y) h = cc h
still_err view (Err e) h = refl

module _ {T Y Z : Type 0} (shown : T → Y) (view : Y → Z) where
  answer_viewed : (answer : Result Y ParseError) (can_fail : Bool) (before now : ℕ) (r : Result T ParseError) → IsAnswer shown answer can_fail before now r → IsAnswer (λ value. value) (ok_map view answer) can_fail before now (ok_map (λ x. view (shown x)) r)
  answer_viewed answer can_fail before now (Ok x) h = (h.0, ap (ok_map view) h.1)
  answer_viewed answer can_fail before now (Err e) h = refused_so (kind e) (IsErr answer) (IsErr (ok_map view answer)) before before now can_fail (still_err view answer) refl h

  answers_viewed : (answer : List ℕ → Result Y ParseError) (can_fail : Bool) (before now : ℕ) (known : Option (List ℕ)) (r : Result T ParseError) → IfSome known (λ bytes. IsAnswer shown (answer bytes) can_fail before now r)
      → IfSome known (λ bytes. IsAnswer (λ value. value) (ok_map view (answer bytes)) can_fail before now (ok_map (λ x. view (shown x)) r))
  answers_viewed answer can_fail before now None r h = tt
  answers_viewed answer can_fail before now (Some bytes) r h = answer_viewed (answer bytes) can_fail before now r h

  pub leaves_viewed : {E : Type 0} (requested : List (ℕ × ℕ)) (answer : List ℕ → Result Y ParseError) (old new : StreamView E) (r : Result T ParseError) → Leaves requested shown answer old new r
      → Leaves requested (λ value. value) (λ bytes. ok_map view (answer bytes)) old new (ok_map (λ x. view (shown x)) r)
  leaves_viewed requested answer old new r h = record {
    left = left_viewed requested old new (λ x. view (shown x)) r h.left;
    answers = answers_viewed answer old.can_fail old.failures new.failures old.content r h.answers;
  }

-- ---- and its copy

pub leaves_copy : {E T Y Z C : Type 0} (shown : T → Option Y) (view : Y → Z) (copied : C → Z) (requested : List (ℕ × ℕ)) (answer : List ℕ → Result (Option Y) ParseError) (old new : StreamView E) (r given : Result T ParseError) (result : Result (Option C) ParseError)
    → r ≡ given → Leaves requested shown answer old new r → IsCopy copied (ok_map (λ x. option_map view (shown x)) given) result
    → LeavesCopy requested copied (λ bytes. ok_map (option_map view) (answer bytes)) old new result
leaves_copy shown view copied requested answer old new r given result is leaves copy = record {
  found = ok_map (λ x. option_map view (shown x)) r;
  leaves = leaves_viewed shown (option_map view) requested answer old new r leaves;
  copied = subst (λ r. IsCopy copied (ok_map (λ x. option_map view (shown x)) r) result) (sym is) copy;
}
