-- What a run of the calls of a listing leaves.
use Rattle.std.specs.Prelude.{ℕ, Bool, List, length, map, Option, Result, IsOkAnd, MatchResult}
use Rattle.std.specs.Io.KnownBytes.{Appends}
use Rattle.elf_records.specs.declared.parse.ParseError.{ParseError}
use Rattle.elf_reading.specs.Opening.{FileView}
use Rattle.elf.specs.ObjectFile.{object_file}
use Rattle.elfshow.specs.Question.{question}
use Rattle.elfshow.specs.Show.{IsStopOfBytes}
use Rattle.elfshow.specs.Text.{text}
use Rattle.elfshow.specs.declared.calls.Call.{Call}
use Rattle.elfshow.specs.declared.runs.RunError.{RunError}

-- the text of the calls over a file, as the definition has it
abbrev pub text_of : {E : Type 0} → (E → Bool) → FileView E → List Call → List ℕ
text_of little v calls = text v.ehdr (object_file little v) (map question calls)

-- As RanOver, of a run over bytes in memory: the file opens and its text is written, or the run says why it stopped.
abbrev pub RanInMemory : {F C : Type 0} → Result F ParseError → (F → List C → List ℕ) → List C → Option (List ℕ) →
    Option (List ℕ) → Result (Unit {0}) RunError → Type 0
RanInMemory opening texts calls old new r =
    MatchResult r (λ _. IsOkAnd opening (λ file. Appends old new (texts file calls)))
    (λ e. IsStopOfBytes opening (length calls) e)
