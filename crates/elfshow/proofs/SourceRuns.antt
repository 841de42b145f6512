-- What a run over a source writes is the text over the file that its content is.
use Rattle.std.proofs.Common.{◌≡◌, ℕ, Bool, List, Option, Some, None, Result, Ok, Err, map, refl, sym, subst, take, IfSome}
use Rattle.std.specs.Prelude.{IsErr, IsOk, IsOkAnd}
use Rattle.std.specs.Io.KnownBytes.{Appends, Keeps as KeepsBytes}
use Rattle.elf.specs.StreamFile.{stream_file}
use Rattle.elf.specs.ObjectFile.{object_file}
use Rattle.elf_reading.specs.Opening.{opened_file}
use Rattle.elf.specs.ElfStream.{IsOpening, StreamView}
use Rattle.elf_reading.specs.Refusals.{MayRefuse}
use Rattle.elf_reading.specs.Opening.{headers_of}
use Rattle.elf_reading.specs.Refusals.{IsRefused, Kind, kind}
use Rattle.elf.specs.ElfBytes.{with_header}
use Rattle.elf_reading.specs.Opening.{FileView}
use Rattle.elf_records.specs.Number.{ok_map}
use Rattle.elf_records.specs.declared.file.FileHeader.{FileHeader}
use Rattle.elf_records.specs.declared.parse.ParseError.{ParseError}
use Rattle.elf_records.specs.inner.RecordLaws.{ok_map-ok}
use Rattle.elfshow.specs.Question.{Question, question}
use Rattle.elfshow.specs.Show.{RanOver}
use Rattle.elfshow.specs.Run.{Ran}
use Rattle.elfshow.specs.Text.{text}
use Rattle.elfshow.specs.declared.calls.Call.{Call}
use Rattle.elfshow.specs.declared.runs.RunError.{RunError}
use Rattle.elfshow.specs.declared.runs.RunError.TheVariants.{Fault, Open, Write}

may_fault : (k : Kind) (before now : ℕ) (can_fail : Bool) → IsRefused before now can_fail ⊥ k → MayRefuse can_fail (Unit {0}) ⊥ k
may_fault Kind.SourceFailure before now can_fail h = h.1
may_fault Kind.AllocationFailure before now can_fail h = tt
may_fault Kind.Refusal before now can_fail h = absurd h.1

may_refuse : (k : Kind) (R S P Q : Type 0) (can_fail : Bool) → (R → S) → (P → Q) → MayRefuse can_fail R P k → MayRefuse can_fail S Q k
may_refuse Kind.SourceFailure R S P Q can_fail some none h = h
may_refuse Kind.AllocationFailure R S P Q can_fail some none h = some h
may_refuse Kind.Refusal R S P Q can_fail some none h = none h

inner_refused : {A B : Type 0} (f : A → B) (r : Result A ParseError) → IsErr (ok_map f r) → IsErr r
inner_refused f (Ok x) h = cc
inner_refused f (Err e) h = refl

inner_opens : {A B : Type 0} (f : A → B) (r : Result A ParseError) → IsOk (ok_map f r) → IsOk r
inner_opens f (Ok x) h = refl
inner_opens f (Err e) h = cc

opens : {A B : Type 0} (f : A → B) (r : Result A ParseError) (y : B) → ok_map f r ≡ Ok y → IsOk r
opens f (Ok x) y h = refl
opens f (Err e) y h = cc

keeps_itself : (known : Option (List ℕ)) → KeepsBytes known known
keeps_itself None = tt
keeps_itself (Some xs) = refl

module _ {E : Type 0} (little : E → Bool) (of_byte : ℕ → Option E)
    (law : (bytes : List ℕ) (v : FileView E) (header : FileHeader E) (s : StreamView E) (calls : List Question) → opened_file little of_byte bytes ≡ Ok v → s.headers ≡ headers_of (with_header v header)
    → text header (object_file little (with_header v header)) calls ≡ text s.headers.ehdr (stream_file little s bytes) calls) where
  opened_text : (bytes : List ℕ) (s : StreamView E) (can_fail : Bool) (failures : ℕ) (calls : List Call) (before after : Option (List ℕ))
      → IsOpening (ok_map headers_of (opened_file little of_byte bytes)) can_fail failures (Ok s)
      → Appends before after (text s.headers.ehdr (stream_file little s bytes) (map question calls))
      → IsOkAnd (opened_file little of_byte bytes) (λ file. Appends before after (text file.ehdr (object_file little file) (map question calls)))
  opened_text bytes s can_fail failures calls before after opening wrote =
      let found = ok_map-ok headers_of (opened_file little of_byte bytes) s.headers opening.1 in
      let v : FileView E = found.0 in
      let same = law bytes v v.ehdr s (map question calls) found.1 (sym found.2) in
      let written : Appends before after (text v.ehdr (object_file little v) (map question calls)) = subst (λ t. Appends before after t) (sym same) wrote in
      subst (λ (o : Result (FileView E) ParseError). IsOkAnd o (λ file. Appends before after (text file.ehdr (object_file little file) (map question calls)))) (sym found.1) written

  known_ran : (known : Option (List ℕ)) (s : StreamView E) (can_fail : Bool) (failures now : ℕ) (calls : List Call) (before after : Option (List ℕ)) (r : Result (Unit {0}) RunError) → s.can_fail ≡ can_fail
      → IfSome known (λ bytes. IsOpening (ok_map headers_of (opened_file little of_byte bytes)) can_fail failures (Ok s))
      → IfSome known (λ bytes. Ran (λ calls. text s.headers.ehdr (stream_file little s bytes) (map question calls)) calls before after s.can_fail s.failures now r)
      → IfSome known (λ bytes. RanOver (opened_file little of_byte bytes) (λ file calls. text file.ehdr (object_file little file) (map question calls)) calls before after can_fail r)
  known_ran None s can_fail failures now calls before after r may opening ran = tt
  known_ran (Some bytes) s can_fail failures now calls before after (Ok x) may opening ran = opened_text bytes s can_fail failures calls before after opening ran.1
  known_ran (Some bytes) s can_fail failures now calls before after (Err (Open e)) may opening ran = absurd ran
  known_ran (Some bytes) s can_fail failures now calls before after (Err (Fault done e)) may opening ran =
      (ran.0, opened_text bytes s can_fail failures (take done calls) before after opening ran.1, subst (λ b. MayRefuse b (Unit {0}) ⊥ (kind e)) may (may_fault (kind e) s.failures now s.can_fail ran.2))
  known_ran (Some bytes) s can_fail failures now calls before after (Err (Write done e)) may opening ran = (ran.0, opens headers_of (opened_file little of_byte bytes) s.headers opening.1)

  pub source_ran : (known : Option (List ℕ)) (s : StreamView E) (can_fail : Bool) (failures now : ℕ) (calls : List Call) (before after : Option (List ℕ)) (r : Result (Unit {0}) RunError) → s.content ≡ known → s.can_fail ≡ can_fail
      → IfSome known (λ bytes. IsOpening (ok_map headers_of (opened_file little of_byte bytes)) can_fail failures (Ok s))
      → IfSome s.content (λ bytes. Ran (λ calls. text s.headers.ehdr (stream_file little s bytes) (map question calls)) calls before after s.can_fail s.failures now r)
      → IfSome known (λ bytes. RanOver (opened_file little of_byte bytes) (λ file calls. text file.ehdr (object_file little file) (map question calls)) calls before after can_fail r)
  source_ran known s can_fail failures now calls before after r same may opening ran =
      known_ran known s can_fail failures now calls before after r may opening
      (subst (λ content. IfSome content (λ bytes. Ran (λ calls. text s.headers.ehdr (stream_file little s bytes) (map question calls)) calls before after s.can_fail s.failures now r)) same ran)

-- a source that is refused: nothing was written
pub source_refused : {E : Type 0} (little : E → Bool) (of_byte : ℕ → Option E) (known : Option (List ℕ)) (can_fail : Bool) (failures : ℕ) (calls : List Call) (before : Option (List ℕ)) (whole : Result (StreamView E) ParseError) (e : ParseError) → whole ≡ Err e
    → IfSome known (λ bytes. IsOpening (ok_map headers_of (opened_file little of_byte bytes)) can_fail failures whole)
    → IfSome known (λ bytes. RanOver (opened_file little of_byte bytes) (λ file calls. text file.ehdr (object_file little file) (map question calls)) calls before before can_fail (Err (Open e)))
source_refused little of_byte None can_fail failures calls before whole e is opening = tt
source_refused {E} little of_byte (Some bytes) can_fail failures calls before whole e is opening =
    let opening_answer = ok_map headers_of (opened_file little of_byte bytes) in
    let refused : MayRefuse can_fail (IsOk opening_answer) (IsErr opening_answer) (kind e) = subst (λ w. IsOpening (ok_map headers_of (opened_file little of_byte bytes)) can_fail failures w) is opening in (
      keeps_itself before,
      may_refuse (kind e) (IsOk opening_answer) (IsOk (opened_file little of_byte bytes)) (IsErr opening_answer) (IsErr (opened_file little of_byte bytes)) can_fail
          (inner_opens headers_of (opened_file little of_byte bytes)) (inner_refused headers_of (opened_file little of_byte bytes)) refused,
    )
