-- The promises of the page that no law of another crate states: of openings, and of lists of calls of a stream.
use Rattle.std.proofs.Common.{◌≡◌, ◌+◌, ◌<◌, ℕ, Bool, List, [], ◌∷◌, ◌++◌, Option, Some, IfSome, refl, sym, ap, ◌∙◌, subst, arith}
use Rattle.std.specs.Prelude.{◌↔◌, All, Result, Ok, Err, IfErr, IsErr, IsOk, MatchResult}
use Rattle.std.specs.Result.{IsErrAnd, IsOkAnd, result_ok}
use Rattle.std.proofs.lemmas.List.Elements.{All-head}
use Rattle.elf_records.specs.Number.{ok_map}
use Rattle.elf_records.specs.declared.file.FileHeader.{FileHeader}
use Rattle.elf_records.specs.declared.parse.ParseError.{ParseError}
use Rattle.elf_reading.specs.Opening.{FileView, StreamHeaders, headers_of}
use Rattle.elf_reading.specs.Refusals.{IsAnswer, IsRefused, Kind, MayRefuse, kind}
use Rattle.elf.specs.ElfBytes.{with_header}
use Rattle.elf.specs.ElfStream.{AreCached, IsOpening, Keeps, Leaves, StreamView}
use Rattle.elf.specs.ObjectFile.{object_file}
use Rattle.elf.specs.Ranges.{headers_alone}
use Rattle.elf.specs.Readers.{AreAlike, AreMade, Call, IsAnsweredAlike, IsSame, Method, Shown, answer, requested_ranges}
use Rattle.elf.specs.StreamFile.{listed_file, stream_file}
use Rattle.elf_laws.specs.Asked.{after, put}

-- ---- an opening

not_refused : (k : Kind) (can_fail : Bool) (some none : Type 0) → MayRefuse can_fail some none k → k ≡ Kind.Refusal → none
not_refused Kind.SourceFailure can_fail some none h is = cc is
not_refused Kind.AllocationFailure can_fail some none h is = cc is
not_refused Kind.Refusal can_fail some none h is = h

pub opened_alike : {E : Type 0} (o : Result (FileView E) ParseError) (can_fail : Bool) (before : ℕ) (r : Result (StreamView E) ParseError) → IsOpening (ok_map headers_of o) can_fail before r
    → MatchResult r (λ s. IsOkAnd o (λ v. s.headers ≡ headers_of v)) (λ e. kind e ≡ Kind.Refusal → IsErr o)
opened_alike (Ok v) can_fail before (Ok s) h = let same : headers_of v ≡ s.headers = cc h.1 in sym same
opened_alike (Ok v) can_fail before (Err e) h = λ is. not_refused (kind e) can_fail (IsOk {E = ParseError} (Ok v)) (IsErr {E = ParseError} (Ok v)) h is
opened_alike (Err d) can_fail before (Ok s) h = cc h.1
opened_alike (Err d) can_fail before (Err e) h = λ is. refl

-- a claim about the file that was opened
pub of_opened : {E : Type 0} (o : Result (FileView E) ParseError) (headers : StreamHeaders E) (P : FileView E → Type 0) → ok_map headers_of o ≡ Ok headers
    → ((v : FileView E) → o ≡ Ok v → headers ≡ headers_of (with_header v headers.ehdr) → P v) → IsOkAnd o P
of_opened (Ok v) headers P is so =
    let same : headers_of v ≡ headers = cc is in
    so v refl (subst (λ h. h ≡ headers_of (with_header v h.ehdr)) same refl)
of_opened (Err d) headers P is so = cc is

-- ---- a result beside another

pub alike_unless_failed : {A : Type 0} (other r : Result A ParseError) → IsSame other r → IfErr r (λ e. kind e ≡ Kind.Refusal) → AreAlike other r
alike_unless_failed other (Ok x) same h = ap result_ok same
alike_unless_failed (Ok y) (Err e) same h = let refused : IsErr {E = ParseError} (Ok y) = same h in cc refused
alike_unless_failed (Err d) (Err e) same h = refl

source_failed : (k : Kind) (before now : ℕ) (can_fail : Bool) (none : Type 0) → IsRefused before now can_fail none k → (k ≡ Kind.SourceFailure) ↔ (before < now)
source_failed Kind.SourceFailure before now can_fail none h = (λ is. h.0, λ less. refl)
source_failed Kind.AllocationFailure before now can_fail none h = (λ is. cc is, λ less. absurd (omega (arith, less, h)))
source_failed Kind.Refusal before now can_fail none h = (λ is. cc is, λ less. absurd (omega (arith, less, h.0)))

failed_there : {A : Type 0} (known : Result A ParseError) (can_fail : Bool) (before now : ℕ) (r : Result A ParseError) → IsAnswer (λ x. x) known can_fail before now r → IsErrAnd r (λ e. kind e ≡ Kind.SourceFailure) ↔ (before < now)
failed_there known can_fail before now (Ok x) h = (λ is. absurd is, λ less. absurd (omega (arith, less, h.0)))
failed_there known can_fail before now (Err e) h = source_failed (kind e) before now can_fail (IsErr known) h

given : (bytes : List ℕ) (content : Option (List ℕ)) (P : List ℕ → Type 0) → content ≡ Some bytes → IfSome content P → P bytes
given bytes content P is h = subst (λ content. IfSome content P) is h

still_cached : {E : Type 0} (old new : StreamView E) (rs : List (ℕ × ℕ)) → Keeps old new → AreCached old rs → AreCached new rs
still_cached old new [] keeps h = tt
still_cached old new (r ∷ rs) keeps h = (keeps.cached r.0 (r.0 + r.1) h.0, still_cached old new rs keeps h.1)

module _ {E : Type 0} (little : E → Bool) where
  -- what a call of this method leaves and answers
  abbrev Made : (m : Method) → StreamView E → StreamView E → Result (Shown m) ParseError → Type 0
  Made m old new r = Leaves (requested_ranges m (headers_alone little old)) (λ x. x) (λ bytes. answer m (stream_file little old bytes)) old new r

  pub failures_told : (bytes : List ℕ) (s : StreamView E) (call : Call E) (calls : List (Call E)) → s.content ≡ Some bytes → AreMade little s (call ∷ calls)
      → IsErrAnd call.result (λ e. kind e ≡ Kind.SourceFailure) ↔ (s.failures < call.new.failures)
  failures_told bytes s call calls content made =
      let old = put s call.header in
      let leaves : Made call.method old call.new call.result = made.0 in
      failed_there (answer call.method (stream_file little old bytes)) old.can_fail old.failures call.new.failures call.result
      (given bytes old.content (λ bytes. IsAnswer (λ x. x) (answer call.method (stream_file little old bytes)) old.can_fail old.failures call.new.failures call.result) content leaves.answers)

  -- ---- what a list of calls keeps

  keeps_over : (s : StreamView E) (header : FileHeader E) (new last : StreamView E) → Keeps (put s header) new → Keeps (put new last.headers.ehdr) last → Keeps (put s last.headers.ehdr) last
  keeps_over s header new last a b = record {
    content = b.content ∙ a.content;
    can_fail = b.can_fail ∙ a.can_fail;
    by_segments = b.by_segments ∙ a.by_segments;
    headers = b.headers ∙ ap (λ (h : StreamHeaders E). record h { ehdr = last.headers.ehdr }) a.headers;
    size = b.size ∙ a.size;
    cached = λ start end h. b.cached start end (a.cached start end h);
  }

  pub all_kept : (s : StreamView E) (calls : List (Call E)) → AreMade little s calls → Keeps (put s (after s calls).headers.ehdr) (after s calls)
  all_kept s [] made = record { content = refl; can_fail = refl; by_segments = refl; headers = refl; size = refl; cached = λ start end h. h }
  all_kept s (call ∷ calls) made =
      let leaves : Made call.method (put s call.header) call.new call.result = made.0 in
      keeps_over s call.header call.new (after call.new calls) leaves.left.keeps (all_kept call.new calls made.1)

  pub headers_kept : (v : FileView E) (s : StreamView E) (calls : List (Call E)) → AreMade little s calls → s.headers ≡ headers_of (with_header v s.headers.ehdr)
      → let last = after s calls in last.headers ≡ headers_of (with_header v last.headers.ehdr)
  headers_kept v s calls made same =
      (all_kept s calls made).headers ∙ ap (λ (h : StreamHeaders E). record h { ehdr = (after s calls).headers.ehdr }) same

  -- ---- the last of some calls

  pub made_before : (s : StreamView E) (calls : List (Call E)) (call : Call E) → AreMade little s (calls ++ (call ∷ [])) → AreMade little s calls × AreMade little (after s calls) (call ∷ [])
  made_before s [] call made = (tt, made)
  made_before s (first ∷ calls) call made =
      let rest = made_before first.new calls call made.1 in
      ((made.0, rest.0), rest.1)

  module _ (bytes : List ℕ) (v : FileView E)
      (alike : (s : StreamView E) (calls : List (Call E)) → s.content ≡ Some bytes → s.headers ≡ headers_of (with_header v s.headers.ehdr) → AreMade little s calls → All (IsAnsweredAlike little v) calls) where
    pub cached_alike : (s : StreamView E) (calls : List (Call E)) (call : Call E) → s.content ≡ Some bytes → s.headers ≡ headers_of (with_header v s.headers.ehdr) → AreMade little s (calls ++ (call ∷ []))
        → let old = put (after s calls) call.header in AreCached old (requested_ranges call.method (headers_alone little old))
        → (call.new ≡ old) × AreAlike (answer call.method (object_file little (with_header v call.header))) call.result
    cached_alike s calls call content headers made cached =
        let parts = made_before s calls call made in
        let last = after s calls in
        let same = All-head (IsAnsweredAlike little v) call [] (alike last (call ∷ []) ((all_kept s calls parts.0).content ∙ content) (headers_kept v s calls parts.0 headers) parts.1) in
        let leaves : Made call.method (put last call.header) call.new call.result = parts.1.0 in
        let unused = leaves.left.untouched cached in
        (unused.0, alike_unless_failed (answer call.method (object_file little (with_header v call.header))) call.result same unused.1)

  -- ---- a call that is made again

  refused_again : {A : Type 0} (k : Kind) (before now : ℕ) (can_fail : Bool) (known : Result A ParseError) (x : A) (P : Type 0) → IsRefused before now can_fail (IsErr known) k → k ≡ Kind.Refusal → known ≡ Ok x → P
  refused_again Kind.SourceFailure before now can_fail known x P h is ok = cc is
  refused_again Kind.AllocationFailure before now can_fail known x P h is ok = cc is
  refused_again Kind.Refusal before now can_fail known x P h is ok = let refused : IsErr {E = ParseError} (Ok x) = subst IsErr ok h.1 in cc refused

  same_answer : {A : Type 0} (known : Result A ParseError) (x : A) (can_fail : Bool) (before now : ℕ) (q : Result A ParseError) → IsAnswer (λ x. x) known can_fail before now q → IfErr q (λ e. kind e ≡ Kind.Refusal) → known ≡ Ok x → q ≡ Ok x
  same_answer known x can_fail before now (Ok y) h plain ok = sym h.1 ∙ ok
  same_answer known x can_fail before now (Err e) h plain ok = refused_again (kind e) before now can_fail known x (Err e ≡ Ok x) h plain ok

  one_again : (bytes : List ℕ) (m : Method) (old new other last : StreamView E) (r q : Result (Shown m) ParseError) → old.content ≡ Some bytes → other.content ≡ old.content → other.headers ≡ old.headers → Keeps new other
      → Made m old new r → Made m other last q → IsOk r → q ≡ r
  one_again bytes m old new other last (Err e) q content there headers keeps first again ok = cc ok
  one_again bytes m old new other last (Ok x) q content there headers keeps first again ok =
      let one : IsAnswer (λ x. x) (answer m (stream_file little old bytes)) old.can_fail old.failures new.failures (Ok x) =
      given bytes old.content (λ bytes. IsAnswer (λ x. x) (answer m (stream_file little old bytes)) old.can_fail old.failures new.failures (Ok x)) content first.answers in
      let two : IsAnswer (λ x. x) (answer m (stream_file little other bytes)) other.can_fail other.failures last.failures q =
      given bytes other.content (λ bytes. IsAnswer (λ x. x) (answer m (stream_file little other bytes)) other.can_fail other.failures last.failures q) (there ∙ content) again.answers in
      let cached : AreCached other (requested_ranges m (headers_alone little old)) = still_cached new other (requested_ranges m (headers_alone little old)) keeps first.left.loaded in
      let here : AreCached other (requested_ranges m (headers_alone little other)) = subst (λ h. AreCached other (requested_ranges m (listed_file little h []))) (sym headers) cached in
      let ok : answer m (stream_file little other bytes) ≡ Ok x = ap (λ h. answer m (listed_file little h bytes)) headers ∙ one.1 in
      same_answer (answer m (stream_file little other bytes)) x other.can_fail other.failures last.failures q two (again.left.untouched here).1 ok

  pub answered_again : (bytes : List ℕ) (s : StreamView E) (call : Call E) (between : List (Call E)) (result : Result (Shown call.method) ParseError) (new : StreamView E) → s.content ≡ Some bytes
      → AreMade little s (call ∷ (between ++ (record { header = call.header; method = call.method; result = result; new = new } ∷ []))) → IsOk call.result → result ≡ call.result
  answered_again bytes s call between result new content made ok =
      let other : Call E = record { header = call.header; method = call.method; result = result; new = new } in
      let first : Made call.method (put s call.header) call.new call.result = made.0 in
      let parts = made_before call.new between other made.1 in
      let last : StreamView E = after call.new between in
      let again : Made call.method (put last call.header) new result = parts.1.0 in
      let kept : Keeps (put call.new last.headers.ehdr) last = all_kept call.new between parts.0 in
      let put_in = λ (h : StreamHeaders E). record h { ehdr = call.header } in
      let keeps : Keeps call.new (put last call.header) = record {
        content = kept.content;
        can_fail = kept.can_fail;
        by_segments = kept.by_segments;
        headers = ap put_in kept.headers ∙ ap put_in first.left.keeps.headers ∙ sym first.left.keeps.headers;
        size = kept.size;
        cached = kept.cached;
      } in
      one_again bytes call.method (put s call.header) call.new (put last call.header) new call.result result content (kept.content ∙ first.left.keeps.content) (keeps.headers ∙ first.left.keeps.headers) keeps first again ok
