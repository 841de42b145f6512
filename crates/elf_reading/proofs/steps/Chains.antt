-- Answers that are found step by step.
use Rattle.std.proofs.Common.{◌≡◌, ℕ, ◌+◌, ◌<◌, ◌≤◌, Bool, List, length, take, drop, refl, sym, ap, ◌∙◌, subst, arith, Option, Some, None, IfSome}
use Rattle.std.specs.Prelude.{◌^◌, Result, Ok, Err, IsErr, is_err, IfErr}
use Rattle.elf_records.specs.Number.{bytes_at, ok_map}
use Rattle.elf_records.specs.Record.{◌>>=◌}
use Rattle.elf_records.specs.declared.parse.ParseError.{ParseError}
use Rattle.elf_reading.specs.Refusals.{IsAnswer}
use Rattle.elf_reading.specs.Refusals.{Kind, kind}
use Rattle.elf_reading.proofs.steps.Ranges.{read_within}
use Rattle.elf_reading.proofs.steps.Ranges.{refused_so}

-- bytes that were read into room of their length
pub array_answered : (known : Option (List ℕ)) (len start size end before now : ℕ) (can_fail : Bool) (room part : List ℕ) → IfSome known (λ bytes. len ≡ length bytes) → start + size < 2 ^ 64 → end ≡ start + size → end ≤ len → length room ≡ size
    → IfSome known (λ bytes. part ≡ take (length room) (drop start bytes)) → IfSome known (λ bytes. now ≡ before) → IfSome known (λ bytes. (now ≡ before) × (bytes_at size bytes start ≡ Ok part))
array_answered None len start size end before now can_fail room part whole low to within long read count = tt
array_answered (Some bytes) len start size end before now can_fail room part whole low to within long read count =
    (count, read_within bytes start size low (omega arith) ∙ ap Ok (ap (λ n. take n (drop start bytes)) (sym long) ∙ sym read))

-- ---- a step of a chain

bind_refused : {A B E : Type 0} (x : Result A E) (f : A → Result B E) → IsErr x → IsErr (x >>= f)
bind_refused (Ok a) f h = cc
bind_refused (Err e) f h = refl

-- the same value, or both an error
pub record AreAlike {A E : Type 0} (x y : Result A E) : Type 0 where
  pub value : (a : A) → y ≡ Ok a → x ≡ Ok a
  pub refused : IsErr y → IsErr x

pub alike_same : {A E : Type 0} (x y : Result A E) → x ≡ y → AreAlike x y
alike_same x y same = record { value = λ a h. same ∙ h; refused = λ h. ap is_err same ∙ h }

alike_answer : {T Y : Type 0} (shows : T → Y) (x y : Result Y ParseError) (can_fail : Bool) (before now : ℕ) (r : Result T ParseError) → AreAlike x y → IsAnswer shows y can_fail before now r → IsAnswer shows x can_fail before now r
alike_answer shows x y can_fail before now (Ok a) alike h = (h.0, alike.value (shows a) h.1)
alike_answer shows x y can_fail before now (Err e) alike h = refused_so (kind e) (IsErr y) (IsErr x) before before now can_fail alike.refused refl h

-- the first step was refused
pub answer_stop : {T U X Y : Type 0} (known : Option (List ℕ)) (answer : List ℕ → Result Y ParseError) (a : List ℕ → Result X ParseError) (f : List ℕ → X → Result Y ParseError) (shown : U → X) (shows : T → Y) (before now : ℕ) (can_fail : Bool) (e : ParseError) (r : Result T ParseError)
    → IfSome known (λ bytes. AreAlike (answer bytes) (a bytes >>= f bytes)) → r ≡ Err e
    → IfSome known (λ bytes. IsAnswer shown (a bytes) can_fail before now (Err e)) → IfSome known (λ bytes. IsAnswer shows (answer bytes) can_fail before now r)
answer_stop None answer a f shown shows before now can_fail e r so is h = tt
answer_stop (Some bytes) answer a f shown shows before now can_fail e r so is h =
    rw is (refused_so (kind e) (IsErr (a bytes)) (IsErr (answer bytes)) before before now can_fail (λ x. so.refused (bind_refused (a bytes) (f bytes) x)) refl h)

moved : {T Y : Type 0} (shows : T → Y) (answer : Result Y ParseError) (can_fail : Bool) (before middle now : ℕ) (r : Result T ParseError) → middle ≡ before → IsAnswer shows answer can_fail middle now r → IsAnswer shows answer can_fail before now r
moved shows answer can_fail before middle now (Ok x) same h = (h.0 ∙ same, h.1)
moved shows answer can_fail before middle now (Err e) same h = refused_so (kind e) (IsErr answer) (IsErr answer) before middle now can_fail (λ x. x) same h

pub given : {X Y : Type 0} (x : Result X ParseError) (v : X) (f : X → Result Y ParseError) → x ≡ Ok v → (x >>= f) ≡ f v
given x v f h = ap (λ z. z >>= f) h

-- the first step gave x
pub answer_then : {T U X Y : Type 0} (known : Option (List ℕ)) (answer : List ℕ → Result Y ParseError) (a : List ℕ → Result X ParseError) (f : List ℕ → X → Result Y ParseError) (shown : U → X) (shows : T → Y) (before middle now : ℕ) (can_fail : Bool) (x : U) (r : Result T ParseError)
    → IfSome known (λ bytes. AreAlike (answer bytes) (a bytes >>= f bytes))
    → IfSome known (λ bytes. IsAnswer shown (a bytes) can_fail before middle (Ok x)) → IfSome known (λ bytes. IsAnswer shows (f bytes (shown x)) can_fail middle now r) → IfSome known (λ bytes. IsAnswer shows (answer bytes) can_fail before now r)
answer_then None answer a f shown shows before middle now can_fail x r so h more = tt
answer_then (Some bytes) answer a f shown shows before middle now can_fail x r so h more =
    alike_answer shows (answer bytes) (a bytes >>= f bytes) can_fail before now r so
    (subst (λ y. IsAnswer shows y can_fail before now r) (sym (given (a bytes) (shown x) (f bytes) h.1)) (moved shows (f bytes (shown x)) can_fail before middle now r h.0 more))

pub known_alike : {Y : Type 0} (known : Option (List ℕ)) (answer other : List ℕ → Result Y ParseError) → ((bytes : List ℕ) → answer bytes ≡ other bytes) → IfSome known (λ bytes. AreAlike (answer bytes) (other bytes))
known_alike None answer other same = tt
known_alike (Some bytes) answer other same = alike_same (answer bytes) (other bytes) (same bytes)

pub bind_assoc : {A B C E : Type 0} (x : Result A E) (f : A → Result B E) (g : B → Result C E) → (x >>= λ a. f a >>= g) ≡ ((x >>= f) >>= g)
bind_assoc (Ok a) f g = refl
bind_assoc (Err e) f g = refl

-- ---- a step that uses no source and no memory

pub record IsPlain {A : Type 0} (r : Result A ParseError) : Type 0 where
  pub plain : IfErr r (λ e. kind e ≡ Kind.Refusal)

plain_known : {T Y : Type 0} (shows : T → Y) (answer : Result Y ParseError) (can_fail : Bool) (count : ℕ) (r : Result T ParseError) → ok_map shows r ≡ answer → IsPlain answer → IsAnswer shows answer can_fail count count r
plain_known shows answer can_fail count (Ok x) is plain = (refl, sym is)
plain_known shows answer can_fail count (Err e) is plain = let p = subst (λ z. IsPlain z) (sym is) plain in rw p.plain (refl, ap is_err (sym is))

pub answer_known : {T Y : Type 0} (known : Option (List ℕ)) (answer : Result Y ParseError) (shows : T → Y) (can_fail : Bool) (count : ℕ) (r : Result T ParseError) → ok_map shows r ≡ answer → IsPlain answer → IfSome known (λ bytes. IsAnswer shows answer can_fail count count r)
answer_known None answer shows can_fail count r is plain = tt
answer_known (Some bytes) answer shows can_fail count r is plain = plain_known shows answer can_fail count r is plain

pub ok_map_same : {A E : Type 0} (r : Result A E) → ok_map (λ x. x) r ≡ r
ok_map_same (Ok x) = refl
ok_map_same (Err e) = refl

-- an answer that needs no source and is shown as it is
pub answer_plain : {Y : Type 0} (known : Option (List ℕ)) (answer : Result Y ParseError) (can_fail : Bool) (count : ℕ) (r : Result Y ParseError) → r ≡ answer → IsPlain answer → IfSome known (λ bytes. IsAnswer (λ x. x) answer can_fail count count r)
answer_plain known answer can_fail count r is plain = answer_known known answer (λ x. x) can_fail count r (ok_map_same r ∙ is) plain
