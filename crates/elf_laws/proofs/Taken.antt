-- Steps that were taken: the calls among them are answered alike, whatever was loaded between them.
use Rattle.std.proofs.Common.{◌≡◌, ◌+◌, ℕ, Bool, List, [], ◌∷◌, ◌++◌, Option, Some, None, IfSome, Result, refl, sym, ap, ◌∙◌, length, subst}
use Rattle.std.specs.Prelude.{All, Ok, is_err}
use Rattle.std.specs.Result.{IsOkAnd}
use Rattle.std.specs.List.{filter}
use Rattle.std.proofs.lemmas.List.{length-append}
use Rattle.std.proofs.lemmas.List.Elements.{All-cons, All-head, All-nil, filter-append}
use Rattle.elf_records.specs.declared.file.FileHeader.{FileHeader}
use Rattle.elf_records.specs.declared.parse.ParseError.{ParseError}
use Rattle.elf_reading.specs.Opening.{FileView, StreamHeaders, headers_of}
use Rattle.elf.specs.ElfBytes.{with_header}
use Rattle.elf.specs.ElfStream.{IsOfFile, LoadsRanges, StreamView, opened_as}
use Rattle.elf.specs.Ranges.{headers_alone}
use Rattle.elf.specs.Readers.{AreMade, Call, IsAnsweredAlike}
use Rattle.elf_laws.specs.Asked.{WasMade, method_of}
use Rattle.elf_laws.specs.Steps.{AreTaken, AreTakenAlike, AreTakenWith, ranges_of}
use Rattle.elf_laws.specs.declared.asked.Asked.{Asked}
use Rattle.elf_laws.specs.declared.steps.Loading.{Loading}
use Rattle.elf_laws.specs.declared.steps.Step.{Step}
use Rattle.elf_laws.specs.declared.steps.Step.TheVariants as step
use Rattle.elf_laws.proofs.Made.{errors_in, one_counted}
use Rattle.elf_laws.proofs.Promises.{all_kept, headers_kept}

-- the steps were taken, and this number of calls returned an error
abbrev pub Take : {E : Type 0} → (E → Bool) → List (Step E) → StreamView E → StreamView E → ℕ → Type 0
Take little steps old new refused = AreTakenWith little steps old new refused (λ _. Unit {0})

module _ {E : Type 0} (little : E → Bool) where
  -- ---- one step

  pub taken_call : (old new : StreamView E) (taken : Step E) (header : FileHeader E) (asked : Asked) (r : Result (Unit {0}) ParseError) (n : ℕ)
      → taken ≡ step.Call header asked → errors_in r ≡ n → WasMade little old header (method_of asked) new r → Take little (taken ∷ []) old new n
  taken_call old new taken header asked r n is errors (result, same, made) =
      let call : Call E = record { header = header; method = method_of asked; result = result; new = new } in
      subst (λ taken. Take little (taken ∷ []) old new n) (sym is)
      (call ∷ [], (call, [], refl, refl, refl, made, (refl, refl)), one_counted little call r same ∙ errors, tt)

  pub taken_load : (old new : StreamView E) (taken : Step E) (loading : Loading) (r : Result (Unit {0}) ParseError)
      → taken ≡ step.Load loading → LoadsRanges (ranges_of (headers_alone little old) loading) old new r → Take little (taken ∷ []) old new 0
  taken_load old new taken loading r is loads = subst (λ taken. Take little (taken ∷ []) old new 0) (sym is) ([], (new, r, loads, (refl, refl)), refl, tt)

  -- ---- one step after others

  taken_both : (steps others : List (Step E)) (old middle new : StreamView E) (calls later : List (Call E)) → AreTaken little steps old middle calls → AreTaken little others middle new later
      → AreTaken little (steps ++ others) old new (calls ++ later)
  taken_both [] others old middle new calls later (same, none) taken =
      subst (λ calls. AreTaken little others old new (calls ++ later)) (sym none) (subst (λ s. AreTaken little others s new later) same taken)
  taken_both (step.Call header asked ∷ steps) others old middle new calls later (call, rest, is, header_is, method_is, made, before) taken =
      (call, rest ++ later, ap (λ calls. calls ++ later) is, header_is, method_is, made, taken_both steps others call.new middle new rest later before taken)
  taken_both (step.Load loading ∷ steps) others old middle new calls later (next, r, loads, before) taken =
      (next, r, loads, taken_both steps others next middle new calls later before taken)

  pub one_more_taken : (steps : List (Step E)) (one : Step E) (old middle new : StreamView E) (refused more : ℕ) → Take little steps old middle refused → Take little (one ∷ []) middle new more
      → Take little (steps ++ (one ∷ [])) old new (refused + more)
  one_more_taken steps one old middle new refused more (calls, before, counted, plain) (later, taken, also, true_of) =
      let fails = λ (call : Call E). is_err call.result in (
        calls ++ later,
        taken_both steps (one ∷ []) old middle new calls later before taken,
        ap length (filter-append fails calls later) ∙ length-append (filter fails calls) (filter fails later) ∙ ap (λ n. n + length (filter fails later)) counted ∙ ap (λ n. refused + n) also,
        tt,
      )

  -- ---- as the other reader answers

  module _ (bytes : List ℕ) (v : FileView E)
      (law : (s : StreamView E) (calls : List (Call E)) → s.content ≡ Some bytes → s.headers ≡ headers_of (with_header v s.headers.ehdr) → AreMade little s calls → All (IsAnsweredAlike little v) calls) where
    all_of : (steps : List (Step E)) (s new : StreamView E) (calls : List (Call E)) → s.content ≡ Some bytes → s.headers ≡ headers_of (with_header v s.headers.ehdr) → AreTaken little steps s new calls
        → All (IsAnsweredAlike little v) calls
    all_of [] s new calls content headers (same, none) = subst (λ calls. All (IsAnsweredAlike little v) calls) (sym none) (All-nil (IsAnsweredAlike little v))
    all_of (step.Call header asked ∷ steps) s new calls content headers (call, rest, is, header_is, method_is, made, taken) =
        let first = All-head (IsAnsweredAlike little v) call [] (law s (call ∷ []) content headers made) in
        let others = all_of steps call.new new rest ((all_kept little s (call ∷ []) made).content ∙ content) (headers_kept little v s (call ∷ []) made headers) taken in
        subst (λ calls. All (IsAnsweredAlike little v) calls) (sym is) (All-cons (IsAnsweredAlike little v) call rest first others)
    all_of (step.Load loading ∷ steps) s new calls content headers (middle, r, loads, taken) =
        all_of steps middle new calls (loads.left.keeps.content ∙ content) (subst (λ (h : StreamHeaders E). h ≡ headers_of (with_header v h.ehdr)) (sym loads.left.keeps.headers) headers) taken

  module _ (of_byte : ℕ → Option E) (old : StreamView E) (known : IfSome old.content (λ bytes. IsOfFile little of_byte bytes old))
      (law : (bytes : List ℕ) (v : FileView E) (s : StreamView E) (calls : List (Call E)) (by_segments : Bool) → opened_as little of_byte by_segments bytes ≡ Ok v → s.content ≡ Some bytes
      → s.headers ≡ headers_of (with_header v s.headers.ehdr) → AreMade little s calls → All (IsAnsweredAlike little v) calls) where
    alike : (content : Option (List ℕ)) (steps : List (Step E)) (new : StreamView E) (calls : List (Call E)) → old.content ≡ content → IfSome content (λ bytes. IsOfFile little of_byte bytes old)
        → AreTaken little steps old new calls → IfSome content (λ bytes. IsOkAnd (opened_as little of_byte old.by_segments bytes) (λ v. All (IsAnsweredAlike little v) calls))
    alike None steps new calls is of taken = tt
    alike (Some bytes) steps new calls is (v, read, headers) taken =
        subst (λ o. IsOkAnd o (λ v. All (IsAnsweredAlike little v) calls)) (sym read)
        (all_of bytes v (λ s calls content headers made. law bytes v s calls old.by_segments read content headers made) steps old new calls is headers taken)

    pub taken_alike : (steps : List (Step E)) (new : StreamView E) (refused : ℕ) → Take little steps old new refused → AreTakenAlike little of_byte steps old new refused
    taken_alike steps new refused (calls, taken, counted, none) = (calls, taken, counted, alike old.content steps new calls refl known taken)
