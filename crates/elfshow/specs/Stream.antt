-- What a call over a stream writes, and why it stops.
use Rattle.std.specs.Prelude.{◌≡◌, ◌⊎◌, ℕ, Bool, List, Option, Result, Ok, Err, IfSome, IsOk, OnOk}
use Rattle.std.specs.Io.KnownBytes.{Appends, Keeps as KeepsBytes}
use Rattle.elf.specs.StreamFile.{stream_file}
use Rattle.elf.specs.ElfStream.{AreCached, IsCached, IsFor, IsNeeded, IsRequested, Keeps, StreamView}
use Rattle.elf_reading.specs.Refusals.{IsRefused, Kind, kind}
use Rattle.elf_records.specs.declared.parse.ParseError.{ParseError}
use Rattle.elfshow.specs.Question.{Question}
use Rattle.elfshow.specs.Ranges.{call_ranges}
use Rattle.elfshow.specs.Text.{call_answer, or_refused}
use Rattle.elfshow.specs.declared.stream.Stop.{Stop}
use Rattle.elfshow.specs.declared.stream.Stop.TheVariants as stop

-- what a stream answers to a call over a content, by a type of byte orders and which of them are little
abbrev pub stream_answer : {E : Type 0} → (E → Bool) → StreamView E → List ℕ → Question → Result (List ℕ) ParseError
stream_answer little s bytes call = call_answer s.headers.ehdr (stream_file little s bytes) call

-- where the call is answered its ranges are cached
abbrev pub IsLoaded : {E : Type 0} → (E → Bool) → StreamView E → List ℕ → Question → Type 0
IsLoaded little s bytes call = IsOk (stream_answer little s bytes call) → AreCached s (call_ranges little s call)

-- what the call requests is cached
abbrev pub IsAtHand : {E : Type 0} → (E → Bool) → StreamView E → Question → Type 0
IsAtHand little s call = AreCached s (call_ranges little s call)

-- there was no fault
abbrev pub IsFaultlessCall : Result (Unit {0}) Stop → Type 0
IsFaultlessCall (Err (stop.Fault e)) = ⊥
IsFaultlessCall _ = Unit {0}

-- At Ok the text of this answer was written, and the source did not fail. A fault is a failure of the source, which its
-- count shows, or an allocation failure; then nothing was written. Of what a failed writer has nothing is stated.
abbrev pub RanOne : Result (List ℕ) ParseError → Option (List ℕ) → Option (List ℕ) → Bool → ℕ → ℕ →
    Result (Unit {0}) Stop → Type 0
RanOne answer old new can_fail before now (Ok _) = (now ≡ before) × Appends old new (or_refused answer)
RanOne answer old new can_fail before now (Err (stop.Fault e)) =
    KeepsBytes old new × IsRefused before now can_fail ⊥ (kind e)
RanOne answer old new can_fail before now (Err (stop.Write e)) = now ≡ before

-- ---- what a call uses

-- the source and memory are needed for a requested range that lies in the content and was not cached
abbrev pub MayUse : {E : Type 0} → (E → Bool) → StreamView E → StreamView E → List ℕ → Question → Kind → Type 0
MayUse little old new bytes call = IsFor (IsNeeded bytes new (call_ranges little old call))

-- of a fault
abbrev pub IfFault : Result (Unit {0}) Stop → (ParseError → Type 0) → Type 0
IfFault (Ok _) P = Unit {0}
IfFault (Err (stop.Fault e)) P = P e
IfFault (Err (stop.Write e)) P = Unit {0}

-- The same file, and the text of the call. No range is cached that was not cached before and does not lie within a
-- requested one. If the requested ranges were cached before, the stream is as it was, and there is no fault. After an Ok
-- the ranges of a call that is answered are cached.
pub record RanCall {E : Type 0} (little : E → Bool) (call : Question) (old new : StreamView E)
    (before after : Option (List ℕ)) (r : Result (Unit {0}) Stop) : Type 0 where
  pub keeps : Keeps old new
  pub ran : IfSome old.content (λ bytes.
      RanOne (stream_answer little old bytes call) before after old.can_fail old.failures new.failures r)
  pub only : (start end : ℕ) → IsCached new start end
      → IsCached old start end ⊎ IsRequested (call_ranges little old call) start end
  pub untouched : AreCached old (call_ranges little old call) → (new ≡ old) × IsFaultlessCall r
  pub needed : IfSome old.content (λ bytes. IfFault r (λ e. MayUse little old new bytes call (kind e)))
  pub loaded : OnOk r (IfSome old.content (λ bytes. IsLoaded little new bytes call))
