-- Steps of an opening that read a source, in order.
use Rattle.std.proofs.Common.{◌≡◌, ℕ, ◌∙◌, List, IfSome, refl}
use Rattle.std.specs.Prelude.{Result, Ok, Err}
use Rattle.elf_records.specs.Record.{◌>>=◌}
use Rattle.elf_records.specs.declared.parse.ParseError.{ParseError}
use Rattle.elf_reading.specs.declared.source.StreamSource as source
use Rattle.elf_reading.specs.inner.Reads.{ReadsSource}
use Rattle.elf_reading.proofs.steps.Chains.{AreAlike, IsPlain, answer_plain, answer_stop, answer_then}
use Rattle.elf_reading.proofs.steps.Plain.{plain_no_want}

-- the first step was refused
pub reads_stop : {S X Y : Type 0} (ghosts : source.Ghosts S) (answer : List ℕ → Result Y ParseError) (a : List ℕ → Result X ParseError) (f : List ℕ → X → Result Y ParseError) (old new : S) (e : ParseError) (r : Result Y ParseError)
    → IfSome (ghosts.content old) (λ bytes. AreAlike (answer bytes) (a bytes >>= f bytes)) → r ≡ Err e → ReadsSource ghosts a old new (Err e) → ReadsSource ghosts answer old new r
reads_stop ghosts answer a f old new e r so is h = rw is record {
  content = h.content;
  nature = h.nature;
  answer = answer_stop (ghosts.content old) answer a f (λ x. x) (λ y. y) _ _ _ e (Err e) so refl h.answer;
  memory = h.memory;
}

-- the first step gave x, and the second reads on
pub reads_then : {S X Y : Type 0} (ghosts : source.Ghosts S) (answer : List ℕ → Result Y ParseError) (a : List ℕ → Result X ParseError) (f : List ℕ → X → Result Y ParseError) (old middle new : S) (x : X) (r : Result Y ParseError)
    → IfSome (ghosts.content old) (λ bytes. AreAlike (answer bytes) (a bytes >>= f bytes)) → ReadsSource ghosts a old middle (Ok x) → ReadsSource ghosts (λ bytes. f bytes x) middle new r → ReadsSource ghosts answer old new r
reads_then ghosts answer a f old middle new x r so h more = record {
  content = more.content ∙ h.content;
  nature = more.nature ∙ h.nature;
  answer = answer_then (ghosts.content old) answer a f (λ x. x) (λ y. y) _ _ _ _ x r so h.answer (rw (h.content, h.nature) at more.answer);
  memory = more.memory;
}

-- the first step gave x, and the second reads nothing
pub reads_known : {S X Y : Type 0} (ghosts : source.Ghosts S) (answer : List ℕ → Result Y ParseError) (a : List ℕ → Result X ParseError) (f : X → Result Y ParseError) (old new : S) (x : X) (r : Result Y ParseError)
    → IfSome (ghosts.content old) (λ bytes. AreAlike (answer bytes) (a bytes >>= f)) → ReadsSource ghosts a old new (Ok x) → r ≡ f x → IsPlain (f x) → ReadsSource ghosts answer old new r
reads_known ghosts answer a f old new x r so h is plain = record {
  content = h.content;
  nature = h.nature;
  answer = answer_then (ghosts.content old) answer a (λ _. f) (λ x. x) (λ y. y) _ _ _ _ x r so h.answer (answer_plain (ghosts.content old) (f x) _ _ r is plain);
  memory = plain_no_want r (f x) is plain;
}
