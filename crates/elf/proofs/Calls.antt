-- Consecutive calls of a stream answer as those of `ElfBytes`.
use Rattle.std.proofs.Common.{◌≡◌, ℕ, Bool, List, [], ◌∷◌, refl, ap, ◌∙◌, subst, Option, Some, None, IfSome}
use Rattle.std.specs.Prelude.{Result, Ok, Err, IsErr, All}
use Rattle.std.proofs.lemmas.List.Elements.{All-cons, All-nil}
use Rattle.elf_records.specs.declared.file.FileHeader.{FileHeader}
use Rattle.elf_records.specs.declared.parse.ParseError.{ParseError}
use Rattle.elf.specs.Readers.{AreMade, Call, IsAnsweredAlike, IsSame, answer, requested_ranges}
use Rattle.elf.specs.Ranges.{headers_alone}
use Rattle.elf.specs.StreamFile.{stream_file}
use Rattle.elf.specs.ObjectFile.{object_file}
use Rattle.elf.specs.Readers.{AreAlike, SameAnswers}
use Rattle.elf.specs.ElfStream.{IsOfFile, Keeps, Leaves, StreamView, opened_as}
use Rattle.elf_reading.specs.Opening.{StreamHeaders, headers_of}
use Rattle.elf_reading.specs.Refusals.{IsAnswer}
use Rattle.elf_reading.specs.Refusals.{IsRefused, Kind, kind}
use Rattle.elf.specs.ElfBytes.{with_header}
use Rattle.elf_reading.specs.Opening.{FileView}

value_alike : {A : Type 0} (one other : Result A ParseError) (x : A) → AreAlike one other → other ≡ Ok x → one ≡ Ok x
value_alike (Ok a) (Ok b) x same h = cc
value_alike (Ok a) (Err e) x same h = cc
value_alike (Err d) (Ok b) x same h = cc
value_alike (Err d) (Err e) x same h = cc

refused_alike : {A : Type 0} (one other : Result A ParseError) → AreAlike one other → IsErr other → IsErr one
refused_alike (Ok a) (Ok b) same h = cc
refused_alike (Ok a) (Err e) same h = cc
refused_alike (Err d) (Ok b) same h = cc
refused_alike (Err d) (Err e) same h = refl

refusal : (k : Kind) (before now : ℕ) (can_fail : Bool) (P : Type 0) → IsRefused before now can_fail P k → k ≡ Kind.Refusal → P
refusal Kind.SourceFailure before now can_fail P h is = cc
refusal Kind.AllocationFailure before now can_fail P h is = cc
refusal Kind.Refusal before now can_fail P h is = h.1

one_call : {A : Type 0} (one other : Result A ParseError) (can_fail : Bool) (before now : ℕ) (r : Result A ParseError) → AreAlike one other → IsAnswer (λ x. x) other can_fail before now r → IsSame one r
one_call one other can_fail before now (Ok x) same h = value_alike one other x same h.1
one_call one other can_fail before now (Err e) same h = λ is. refused_alike one other same (refusal (kind e) before now can_fail (IsErr other) h is)

known : (bytes : List ℕ) (content : Option (List ℕ)) (P : List ℕ → Type 0) → content ≡ Some bytes → IfSome content P → P bytes
known bytes content P is h = subst (λ content. IfSome content P) is h

-- the headers stay, and another one may be put in
put_in : {E : Type 0} (v : FileView E) (s : StreamView E) (h : FileHeader E) → s.headers ≡ headers_of (with_header v s.headers.ehdr) → record s.headers { ehdr = h } ≡ headers_of (with_header v h)
put_in v s h same = ap (λ (headers : StreamHeaders _). record headers { ehdr = h }) same

stay : {E : Type 0} (v : FileView E) (old new : StreamView E) → Keeps old new → old.headers ≡ headers_of (with_header v old.headers.ehdr) → new.headers ≡ headers_of (with_header v new.headers.ehdr)
stay v old new keeps same = rw keeps.headers same

module _ {E : Type 0} (little : E → Bool) (bytes : List ℕ) (v : FileView E)
    (law : (header : FileHeader E) (s : StreamView E) → s.headers ≡ headers_of (with_header v header) → SameAnswers (object_file little (with_header v header)) (stream_file little s bytes)) where
  pub calls_alike : (s : StreamView E) (calls : List (Call E)) → s.content ≡ Some bytes → s.headers ≡ headers_of (with_header v s.headers.ehdr) → AreMade little s calls → All (IsAnsweredAlike little v) calls
  calls_alike s [] content headers made = All-nil (IsAnsweredAlike little v)
  calls_alike s (call ∷ calls) content headers made =
      let old : StreamView E = record s { headers = record s.headers { ehdr = call.header } } in
      let leaves : Leaves (requested_ranges call.method (headers_alone little old)) (λ x. x) (λ bytes. answer call.method (stream_file little old bytes)) old call.new call.result = made.0 in
      let now : old.headers ≡ headers_of (with_header v old.headers.ehdr) = put_in v s call.header headers in
      All-cons (IsAnsweredAlike little v) call calls
      (one_call (answer call.method (object_file little (with_header v call.header))) (answer call.method (stream_file little old bytes)) old.can_fail old.failures call.new.failures call.result
      ((law call.header old now).methods call.method)
      (known bytes old.content (λ bytes. IsAnswer (λ x. x) (answer call.method (stream_file little old bytes)) old.can_fail old.failures call.new.failures call.result) content leaves.answers))
      (calls_alike call.new calls (leaves.left.keeps.content ∙ content) (stay v old call.new leaves.left.keeps now) made.1)

pub stream_alike : {E : Type 0} (little : E → Bool) (of_byte : ℕ → Option E) (s : StreamView E) (known : Option (List ℕ))
    → ((bytes : List ℕ) (v : FileView E) (header : FileHeader E) → opened_as little of_byte s.by_segments bytes ≡ Ok v → s.headers ≡ headers_of (with_header v header) → SameAnswers (object_file little (with_header v header)) (stream_file little s bytes))
    → IfSome known (λ bytes. IsOfFile little of_byte bytes s)
    → IfSome known (λ bytes. (v : FileView E) × (opened_as little of_byte s.by_segments bytes ≡ Ok v) × SameAnswers (object_file little (with_header v s.headers.ehdr)) (stream_file little s bytes))
stream_alike little of_byte s None law h = tt
stream_alike little of_byte s (Some bytes) law h = (h.0, h.1, law bytes h.0 s.headers.ehdr h.1 h.2)
