-- What the program does: the request that its words are, the arguments after its name; what a run leaves that opens
-- its file; and what is written.
use Rattle.std.specs.Prelude.{◌≡◌, ℕ, ◌<◌, Bool, if◌then◌else◌, List, [], ◌∷◌, codes, length, take, Option, Some, None}
use Rattle.std.specs.Prelude.{Result, Ok, Err, IfErr, IsErr, IsOk, IsOkAnd}
use Rattle.std.specs.Io.KnownBytes.{Appends, Keeps}
use Rattle.std.specs.Option.{option_and_then, option_map}
use Rattle.std.specs.Str.{bytes_eq}
use denote.Ref.{Bor}
use Rattle.elf_reading.specs.Refusals.{MayRefuse}
use Rattle.elf_reading.specs.Refusals.{Kind, kind}
use Rattle.elf_records.specs.declared.parse.ParseError.{ParseError}
use Rattle.elfshow_lines.specs.Pieces.{◌⧺◌, newline}
use Rattle.elfshow.specs.Words.{call_of}
use Rattle.elfshow.specs.Question.{Question}
use Rattle.elfshow.specs.declared.runs.RunError.{RunError}
use Rattle.elfshow.specs.declared.runs.RunError.TheVariants.{Fault, Open, Write}
use Rattle.elfshow.specs.declared.show.Mode.{Mode}
use Rattle.elfshow.specs.declared.show.Mode.TheVariants.{Both, Bytes, Stream}

-- ---- requests

-- a call before others, if there are others
abbrev pub before_calls : Option (List Question) → Question → Option (List Question)
before_calls others call = option_map (λ calls. call ∷ calls) others

-- the calls of the words, where each spells one
abbrev pub calls_of : List (Bor (List ℕ)) → Option (List Question)
calls_of [] = Some []
calls_of (word ∷ words) = option_and_then (before_calls (calls_of words)) (call_of word.now)

-- the reader that a word asks for: one over the bytes of the file, one over the file as a source, or both
abbrev pub mode_of : List ℕ → Option Mode
mode_of word =
    if bytes_eq word (codes "bytes") then Some Bytes
    else if bytes_eq word (codes "stream") then Some Stream
    else if bytes_eq word (codes "both") then Some Both
    else None

-- the mode, the file and the calls: the words are these, and of calls there is one at least
abbrev pub request_of : List (Bor (List ℕ)) → Option (Mode × List ℕ × List Question)
request_of (mode ∷ file ∷ call ∷ calls) =
    option_and_then (λ m. option_map (λ all. (m, file.now, all)) (calls_of (call ∷ calls))) (mode_of mode.now)
request_of _ = None

-- ---- runs

-- As Ran, of a run that opens its file, over a source of known content: if the file is not opened, nothing was
-- written, and all else is only of a file that opens.
abbrev pub RanOver : {F C : Type 0} → Result F ParseError → (F → List C → List ℕ) → List C → Option (List ℕ) →
    Option (List ℕ) → Bool → Result (Unit {0}) RunError → Type 0
RanOver opening texts calls old new can_fail (Ok _) = IsOkAnd opening (λ file. Appends old new (texts file calls))
RanOver opening texts calls old new can_fail (Err (Open e)) =
    Keeps old new × MayRefuse can_fail (IsOk opening) (IsErr opening) (kind e)
RanOver opening texts calls old new can_fail (Err (Fault done e)) =
    (done < length calls) × IsOkAnd opening (λ file. Appends old new (texts file (take done calls)))
    × MayRefuse can_fail (Unit {0}) ⊥ (kind e)
RanOver opening texts calls old new can_fail (Err (Write done e)) = (done < length calls) × IsOk opening

-- why a run over bytes in memory stops: the file does not open, for its own reason, or the writer failed with calls
-- left
abbrev pub IsStopOfBytes : {F : Type 0} → Result F ParseError → ℕ → RunError → Type 0
IsStopOfBytes opening count (Open e) = opening ≡ Err e
IsStopOfBytes opening count (Fault done e) = ⊥
IsStopOfBytes opening count (Write done e) = IsOk opening × (done < count)

-- why a run by both readers over bytes in memory stops: the file does not open, for its own reason; or it opens, and
-- an allocation failed, when the stream was opened or with calls left, or the writer failed
abbrev pub IsStopOfBoth : {F : Type 0} → Result F ParseError → ℕ → RunError → Type 0
IsStopOfBoth opening count (Open e) =
    IfErr opening (λ own. e ≡ own) × (IsOk opening → kind e ≡ Kind.AllocationFailure)
IsStopOfBoth opening count (Fault done e) = IsOk opening × (done < count) × (kind e ≡ Kind.AllocationFailure)
IsStopOfBoth opening count (Write done e) = IsOk opening × (done ≡ 0)

-- a run that stopped left this as it was, unless a writer failed
abbrev pub IsUnwritten : {A : Type 0} → A → A → Result (Unit {0}) RunError → Type 0
IsUnwritten old new (Ok _) = Unit {0}
IsUnwritten old new (Err (Open e)) = new ≡ old
IsUnwritten old new (Err (Fault done e)) = new ≡ old
IsUnwritten old new (Err (Write done e)) = Unit {0}

-- ---- what is written

-- what follows the text if two texts were made
abbrev pub agreement : List ℕ → List ℕ → List ℕ
agreement one other =
    if bytes_eq one other then codes "readers agree" ⧺ newline else codes "readers differ" ⧺ newline

-- what is written of the text of the calls: of both readers that of the one, and that they agree
abbrev pub shown_by : Mode → List ℕ → List ℕ
shown_by Bytes listing = listing
shown_by Stream listing = listing
shown_by Both listing = listing ⧺ codes "readers agree" ⧺ newline
