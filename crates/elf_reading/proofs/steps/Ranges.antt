-- Reads of a range of a content, and why they are refused.
use Rattle.std.proofs.Common.{◌≡◌, ℕ, ◌+◌, ◌<◌, ◌≤◌, ◌∙◌, Bool, List, length, take, drop, refl, arith, Option, Some, None, IfSome}
use Rattle.std.specs.Prelude.{◌^◌, Result, Ok, Err, IsErr, IsOk}
use Rattle.elf_records.specs.Number.{bytes_at}
use Rattle.elf_reading.specs.Refusals.{IsRefused, Kind}
use Rattle.std.proofs.lemmas.Bool.Decides.{nat_tests}

pub read_within : (bytes : List ℕ) (start size : ℕ) → start + size < 2 ^ 64 → start + size ≤ length bytes → bytes_at size bytes start ≡ Ok (take size (drop start bytes))
unfolding bytes_at
read_within bytes start size low within = grind (arith, nat_tests)

pub read_past : (bytes : List ℕ) (start size : ℕ) → length bytes < start + size → IsErr (bytes_at size bytes start)
unfolding bytes_at
read_past bytes start size past = grind (arith, nat_tests)

pub read_past_64 : (bytes : List ℕ) (start size : ℕ) → 2 ^ 64 ≤ start + size → IsErr (bytes_at size bytes start)
unfolding bytes_at
read_past_64 bytes start size past = grind (arith, nat_tests)

pub read_is_within : (bytes : List ℕ) (start size : ℕ) → IsOk (bytes_at size bytes start) → (start + size < 2 ^ 64) × (start + size ≤ length bytes)
unfolding bytes_at
read_is_within bytes start size ok = grind (arith, nat_tests)

pub one_value : {A E : Type 0} (r : Result A E) (a b : A) → r ≡ Ok a → r ≡ Ok b → a ≡ b
one_value r a b h k = cc

pub refused_past_64 : (known : Option (List ℕ)) (start size count : ℕ) → 2 ^ 64 ≤ start + size → IfSome known (λ bytes. (count ≡ count) × IsErr (bytes_at size bytes start))
refused_past_64 None start size count past = tt
refused_past_64 (Some bytes) start size count past = (refl, read_past_64 bytes start size past)

pub refused_past : (known : Option (List ℕ)) (len start size count : ℕ) → IfSome known (λ bytes. len ≡ length bytes) → len < start + size → IfSome known (λ bytes. (count ≡ count) × IsErr (bytes_at size bytes start))
refused_past None len start size count whole past = tt
refused_past (Some bytes) len start size count whole past = (refl, read_past bytes start size (omega arith))

pub refused_so : (k : Kind) (P Q : Type 0) (before middle now : ℕ) (can_fail : Bool) → (P → Q) → middle ≡ before → IsRefused middle now can_fail P k → IsRefused before now can_fail Q k
refused_so Kind.SourceFailure P Q before middle now can_fail so same h = let up = h.0 in (omega arith, h.1)
refused_so Kind.AllocationFailure P Q before middle now can_fail so same h = h ∙ same
refused_so Kind.Refusal P Q before middle now can_fail so same h = (h.0 ∙ same, so h.1)

pub refused_not : {A E : Type 0} (x : Result A E) → IsErr x → IsOk x → ⊥
refused_not (Ok a) missing there = cc
refused_not (Err e) missing there = cc

pub not_ok : {A E : Type 0} (x : Result A E) → (IsOk x → ⊥) → IsErr x
not_ok (Ok a) h = absurd (h refl)
not_ok (Err e) h = refl
