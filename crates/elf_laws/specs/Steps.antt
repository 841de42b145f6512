-- Lists of calls of a stream: of methods that both readers have, and of those that load ranges.
use Rattle.std.specs.Prelude.{◌≡◌, ℕ, Bool, List, [], ◌∷◌, All, IfSome, Option, Result, is_err, length}
use Rattle.std.specs.List.{filter}
use Rattle.std.specs.Result.{IsOkAnd}
use Rattle.elf_records.specs.declared.parse.ParseError.{ParseError}
use Rattle.elf.specs.ElfStream.{LoadsRanges, StreamView, opened_as}
use Rattle.elf.specs.ObjectFile.{ObjectFile}
use Rattle.elf.specs.Ranges.{headers_alone, linked_ranges}
use Rattle.elf.specs.Readers.{AreMade, Call, IsAnsweredAlike}
use Rattle.elf_laws.specs.Asked.{method_of}
use Rattle.elf_laws.specs.declared.steps.Loading.{Loading}
use Rattle.elf_laws.specs.declared.steps.Loading.TheVariants.{LoadLinked, LoadRange}
use Rattle.elf_laws.specs.declared.steps.Step.{Step}
use Rattle.elf_laws.specs.declared.steps.Step.TheVariants as step

-- the ranges that are asked for
abbrev pub ranges_of : ObjectFile → Loading → List (ℕ × ℕ)
ranges_of file (LoadRange start size) = (start, size) ∷ []
ranges_of file (LoadLinked s) = linked_ranges file s

-- the steps were taken in order, from the one stream to the other, and these were the calls among them of methods that
-- both readers have: with the headers and the methods that were asked for
abbrev pub AreTaken : {E : Type 0} → (E → Bool) → List (Step E) → StreamView E → StreamView E → List (Call E) → Type 0
AreTaken little [] old new calls = (new ≡ old) × (calls ≡ [])
AreTaken {E} little (step.Call header asked ∷ steps) old new calls =
    (call : Call E) × (others : List (Call E)) × (calls ≡ call ∷ others) × (call.header ≡ header)
    × (call.method ≡ method_of asked) × AreMade little old (call ∷ []) × AreTaken little steps call.new new others
AreTaken {E} little (step.Load loading ∷ steps) old new calls =
    (middle : StreamView E) × (result : Result (Unit {0}) ParseError)
    × LoadsRanges (ranges_of (headers_alone little old) loading) old middle result
    × AreTaken little steps middle new calls

-- the steps were taken, this number of the calls among them returned an error, and this is true of these calls
abbrev pub AreTakenWith : {E : Type 0} → (E → Bool) → List (Step E) → StreamView E → StreamView E → ℕ →
    (List (Call E) → Type 0) → Type 0
AreTakenWith {E} little steps old new refused Such =
    (calls : List (Call E)) × AreTaken little steps old new calls
    × (length (filter (λ call. is_err call.result) calls) ≡ refused) × Such calls

-- if the content is known, `ElfBytes` opens it as the stream was opened, and answers each call alike
abbrev pub AreAnsweredAlike : {E : Type 0} → (E → Bool) → (ℕ → Option E) → StreamView E → List (Call E) → Type 0
AreAnsweredAlike little of_byte s calls =
    IfSome s.content (λ bytes. IsOkAnd (opened_as little of_byte s.by_segments bytes)
    (λ v. All (IsAnsweredAlike little v) calls))

-- the steps were taken, and each of the calls among them was answered alike
abbrev pub AreTakenAlike : {E : Type 0} → (E → Bool) → (ℕ → Option E) → List (Step E) → StreamView E → StreamView E →
    ℕ → Type 0
AreTakenAlike little of_byte steps old new refused =
    AreTakenWith little steps old new refused (AreAnsweredAlike little of_byte old)
