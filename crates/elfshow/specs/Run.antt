-- What a run of calls over a stream writes, and why it stops.
use Rattle.std.specs.Prelude.{◌≡◌, ℕ, ◌<◌, Bool, List, length, take, Option, Result, Ok, Err, IfSome, slice_get}
use Rattle.std.specs.List.{flat_map}
use Rattle.std.specs.Io.KnownBytes.{Appends}
use Rattle.elf_reading.specs.Refusals.{IsRefused, kind}
use Rattle.elf.specs.ElfStream.{StreamView}
use Rattle.elf_records.specs.declared.parse.ParseError.{ParseError}
use Rattle.elfshow.specs.Question.{Question}
use Rattle.elfshow.specs.Ranges.{call_ranges}
use Rattle.elfshow.specs.declared.runs.RunError.{RunError}
use Rattle.elfshow.specs.declared.runs.RunError.TheVariants.{Fault, Open, Write}

-- At Ok the whole text was written, and the source did not fail. A fault is a failure of the source, which its count
-- shows, or an allocation failure; then the text of the calls that were done was written. Of what a failed writer has
-- nothing is stated. A run over a stream opens no file.
abbrev pub Ran : {C : Type 0} → (List C → List ℕ) → List C → Option (List ℕ) → Option (List ℕ) → Bool → ℕ → ℕ →
    Result (Unit {0}) RunError → Type 0
Ran texts calls old new can_fail before now (Ok _) = (now ≡ before) × Appends old new (texts calls)
Ran texts calls old new can_fail before now (Err (Open e)) = ⊥
Ran texts calls old new can_fail before now (Err (Fault done e)) =
    (done < length calls) × Appends old new (texts (take done calls)) × IsRefused before now can_fail ⊥ (kind e)
Ran texts calls old new can_fail before now (Err (Write done e)) = (done < length calls) × (now ≡ before)

-- a run that a writer stopped had calls left
abbrev pub StopsWithin : ℕ → Result (Unit {0}) RunError → Type 0
StopsWithin count (Err (Write done e)) = done < count
StopsWithin count _ = Unit {0}

-- there was no fault
abbrev pub IsFaultless : Result (Unit {0}) RunError → Type 0
IsFaultless (Ok _) = Unit {0}
IsFaultless (Err (Open e)) = Unit {0}
IsFaultless (Err (Fault done e)) = ⊥
IsFaultless (Err (Write done e)) = Unit {0}

-- ---- what a run uses

-- the ranges that its calls request, one call after the other
abbrev pub run_ranges : {E : Type 0} → (E → Bool) → StreamView E → List Question → List (ℕ × ℕ)
run_ranges little s calls = flat_map (call_ranges little s) calls

-- of a fault, and of the call at which it came
abbrev pub IfFaultAt : List Question → Result (Unit {0}) RunError → (Question → ParseError → Type 0) → Type 0
IfFaultAt calls (Ok _) P = Unit {0}
IfFaultAt calls (Err (Open e)) P = Unit {0}
IfFaultAt calls (Err (Fault done e)) P = IfSome (slice_get calls done) (λ call. P call e)
IfFaultAt calls (Err (Write done e)) P = Unit {0}
