-- What a run of calls over a stream leaves, by what its calls leave.
use Rattle.std.proofs.Common.{◌≡◌, ℕ, zero, suc, ◌+◌, ◌<◌, ◌⊎◌, inl, inr, arith, refl, Bool, List, [], ◌∷◌, ◌++◌, Option, Some, None, Result, Ok, Err, sym, ap, ◌∙◌, subst, All, IfSome, append_assoc, get_or, length, map, take}
use Rattle.std.proofs.lemmas.List.{append-nil, take_more}
use Rattle.std.proofs.lemmas.List.Elements.{All-head, All-more, All-tail, All-weaker}
use Rattle.std.specs.Prelude.{IsOk, OnOk, slice_get}
use Rattle.std.specs.Io.KnownBytes.{Appends, Keeps as KeepsBytes}
use Rattle.elf.specs.StreamFile.{stream_file}
use Rattle.elf.specs.ObjectFile.{ObjectFile}
use Rattle.elf.specs.ElfStream.{AreCached, IsCached, IsRequested, Keeps, StreamView}
use Rattle.elf.proofs.stream.Steps.{cached_append, cached_back, cached_front, requested_back, requested_front, still_cached}
use Rattle.elf_records.specs.declared.parse.ParseError.{ParseError}
use Rattle.elf_reading.specs.Refusals.{IsRefused, kind}
use Rattle.elf_records.specs.declared.file.FileHeader.{FileHeader}
use Rattle.elfshow_lines.proofs.Writing.{appends_more}
use Rattle.elfshow.specs.Question.{Question, question}
use Rattle.elfshow.specs.Ranges.{call_ranges}
use Rattle.elfshow.specs.Stream.{IfFault, IsAtHand, IsFaultlessCall, IsLoaded, MayUse, RanOne, stream_answer}
use Rattle.elfshow.specs.Text.{call_text, or_refused, text}
use Rattle.elfshow.specs.declared.calls.Call.{Call}
use Rattle.elfshow.specs.declared.stream.Stop.{Stop}
use Rattle.elfshow.specs.declared.stream.Stop.TheVariants as stop
use Rattle.elfshow.proofs.StreamCalls.{same_answer, same_ranges}
use Rattle.elfshow.specs.Run.{IfFaultAt, IsFaultless, Ran, run_ranges}
use Rattle.elfshow.specs.inner.RunSteps.{stopped_after}

ranges_later : {E : Type 0} (little : E → Bool) (old middle : StreamView E) (call : Question) → Keeps old middle → AreCached middle (call_ranges little old call) → AreCached middle (call_ranges little middle call)
ranges_later little old middle call keeps h = subst (λ rs. AreCached middle rs) (sym (same_ranges little old middle call keeps)) h

loaded_later : {E : Type 0} (little : E → Bool) (old new : StreamView E) (bytes : List ℕ) (call : Question) → Keeps old new → IsLoaded little old bytes call → IsLoaded little new bytes call
loaded_later little old new bytes call keeps loaded = λ ready.
    let cached = loaded (subst IsOk (same_answer little call old new bytes keeps) ready) in
    ranges_later little old new call keeps (still_cached old new (call_ranges little old call) keeps cached)

-- the calls so far are loaded, and then one more is
all_loaded : {E : Type 0} (little : E → Bool) (middle new : StreamView E) (known : Option (List ℕ)) (calls : List Call) (i : ℕ) (d : Call) → Keeps middle new → i < length calls
    → IfSome known (λ bytes. All (λ call. IsLoaded little middle bytes (question call)) (take i calls)) → IfSome known (λ bytes. IsLoaded little new bytes (question (get_or calls i d)))
    → IfSome known (λ bytes. All (λ call. IsLoaded little new bytes (question call)) (take (i + 1) calls))
all_loaded little middle new None calls i d keeps within all one = tt
all_loaded little middle new (Some bytes) calls i d keeps within all one =
    let later = All-weaker (λ call. IsLoaded little middle bytes (question call)) (λ call. IsLoaded little new bytes (question call)) (λ call. loaded_later little middle new bytes (question call) keeps) (take i calls) all in
    All-more (λ call. IsLoaded little new bytes (question call)) calls i d within later one

pub more_loaded : {E : Type 0} (little : E → Bool) (middle new : StreamView E) (known : Option (List ℕ)) (calls : List Call) (i : ℕ) (d : Call) (r : Result (Unit {0}) Stop) (x : Unit {0}) → Keeps middle new → i < length calls → r ≡ Ok x
    → IfSome known (λ bytes. All (λ call. IsLoaded little middle bytes (question call)) (take i calls)) → OnOk r (IfSome known (λ bytes. IsLoaded little new bytes (question (get_or calls i d))))
    → IfSome known (λ bytes. All (λ call. IsLoaded little new bytes (question call)) (take (i + 1) calls))
more_loaded little middle new known calls i d r x keeps within is all one =
    all_loaded little middle new known calls i d keeps within all (subst (λ w. OnOk w (IfSome known (λ bytes. IsLoaded little new bytes (question (get_or calls i d))))) is one)

-- the text of the calls so far was written, and then that of one more
text_more : {E : Type 0} (header : FileHeader E) (file : ObjectFile) (calls : List Call) (call : Call) → text header file (map question (calls ++ call ∷ [])) ≡ text header file (map question calls) ++ call_text header file (question call)
text_more header file [] call = append-nil (call_text header file (question call))
text_more header file (first ∷ calls) call =
    ap (λ (t : List ℕ). call_text header file (question first) ++ t) (text_more header file calls call) ∙ sym (append_assoc (call_text header file (question first)) (text header file (map question calls)) (call_text header file (question call)))

kept_appends : (u v w : Option (List ℕ)) (bytes : List ℕ) → Appends u v bytes → KeepsBytes v w → Appends u w bytes
kept_appends None v w bytes h kept = tt
kept_appends (Some xs) None w bytes h kept = absurd h
kept_appends (Some xs) (Some ys) None bytes h kept = kept
kept_appends (Some xs) (Some ys) (Some zs) bytes h kept = kept ∙ h

known_more : {E : Type 0} (little : E → Bool) (old middle : StreamView E) (known : Option (List ℕ)) (calls : List Call) (i : ℕ) (d : Call) (now : ℕ) (u v w z : Option (List ℕ)) (x : Unit {0}) → Keeps old middle → i < length calls → KeepsBytes w z
    → IfSome known (λ bytes. Appends u v (text old.headers.ehdr (stream_file little old bytes) (map question (take i calls))) × (middle.failures ≡ old.failures))
    → IfSome known (λ bytes. RanOne (stream_answer little middle bytes (question (get_or calls i d))) v w middle.can_fail middle.failures now (Ok x))
    → IfSome known (λ bytes. Appends u z (text old.headers.ehdr (stream_file little old bytes) (map question (take (i + 1) calls))) × (now ≡ old.failures))
known_more little old middle None calls i d now u v w z x keeps within kept all one = tt
known_more little old middle (Some bytes) calls i d now u v w z x keeps within kept all one =
    let front = text old.headers.ehdr (stream_file little old bytes) (map question (take i calls)) in
    let here = question (get_or calls i d) in
    let piece : Appends v w (or_refused (stream_answer little old bytes here)) = subst (λ answer. Appends v w (or_refused answer)) (same_answer little here old middle bytes keeps) one.1 in
    let both = appends_more u v w front (or_refused (stream_answer little old bytes here)) all.0 piece in
    let whole = ap (λ cs. text old.headers.ehdr (stream_file little old bytes) (map question cs)) (take_more calls i d within) ∙ text_more old.headers.ehdr (stream_file little old bytes) (take i calls) (get_or calls i d) in
    (kept_appends u w z (text old.headers.ehdr (stream_file little old bytes) (map question (take (i + 1) calls))) (subst (λ t. Appends u w t) (sym whole) both) kept, one.0 ∙ all.1)

pub more_written : {E : Type 0} (little : E → Bool) (old middle : StreamView E) (known : Option (List ℕ)) (calls : List Call) (i : ℕ) (d : Call) (now : ℕ) (u v w z : Option (List ℕ)) (r : Result (Unit {0}) Stop) (x : Unit {0}) → Keeps old middle → i < length calls → KeepsBytes w z → r ≡ Ok x
    → IfSome known (λ bytes. Appends u v (text old.headers.ehdr (stream_file little old bytes) (map question (take i calls))) × (middle.failures ≡ old.failures))
    → IfSome known (λ bytes. RanOne (stream_answer little middle bytes (question (get_or calls i d))) v w middle.can_fail middle.failures now r)
    → IfSome known (λ bytes. Appends u z (text old.headers.ehdr (stream_file little old bytes) (map question (take (i + 1) calls))) × (now ≡ old.failures))
more_written little old middle known calls i d now u v w z r x keeps within kept is all one =
    known_more little old middle known calls i d now u v w z x keeps within kept all (subst (λ o. IfSome known (λ bytes. RanOne (stream_answer little middle bytes (question (get_or calls i d))) v w middle.can_fail middle.failures now o)) is one)

stopped_by : {E : Type 0} (little : E → Bool) (old middle : StreamView E) (known : Option (List ℕ)) (calls : List Call) (i : ℕ) (d : Call) (now : ℕ) (u v w : Option (List ℕ)) (s : Stop) → Keeps old middle → i < length calls
    → IfSome known (λ bytes. Appends u v (text old.headers.ehdr (stream_file little old bytes) (map question (take i calls))) × (middle.failures ≡ old.failures))
    → IfSome known (λ bytes. RanOne (stream_answer little middle bytes (question (get_or calls i d))) v w middle.can_fail middle.failures now (Err s))
    → IfSome known (λ bytes. Ran (λ calls. text old.headers.ehdr (stream_file little old bytes) (map question calls)) calls u w old.can_fail old.failures now (Err (stopped_after i s)))
stopped_by little old middle None calls i d now u v w s keeps within all one = tt
stopped_by little old middle (Some bytes) calls i d now u v w (stop.Fault e) keeps within all one =
    let refused = subst (λ count. IsRefused count now old.can_fail ⊥ (kind e)) all.1 (subst (λ can_fail. IsRefused middle.failures now can_fail ⊥ (kind e)) keeps.can_fail one.1) in
    (within, kept_appends u v w (text old.headers.ehdr (stream_file little old bytes) (map question (take i calls))) all.0 one.0, refused)
stopped_by little old middle (Some bytes) calls i d now u v w (stop.Write e) keeps within all one = (within, one ∙ all.1)

-- a call that stopped the run after i others
pub stopped : {E : Type 0} (little : E → Bool) (old middle : StreamView E) (known : Option (List ℕ)) (calls : List Call) (i : ℕ) (d : Call) (now : ℕ) (u v w : Option (List ℕ)) (r : Result (Unit {0}) Stop) (s : Stop) → Keeps old middle → i < length calls → r ≡ Err s
    → IfSome known (λ bytes. Appends u v (text old.headers.ehdr (stream_file little old bytes) (map question (take i calls))) × (middle.failures ≡ old.failures))
    → IfSome known (λ bytes. RanOne (stream_answer little middle bytes (question (get_or calls i d))) v w middle.can_fail middle.failures now r)
    → IfSome known (λ bytes. Ran (λ calls. text old.headers.ehdr (stream_file little old bytes) (map question calls)) calls u w old.can_fail old.failures now (Err (stopped_after i s)))
stopped little old middle known calls i d now u v w r s keeps within is all one =
    stopped_by little old middle known calls i d now u v w s keeps within all (subst (λ o. IfSome known (λ bytes. RanOne (stream_answer little middle bytes (question (get_or calls i d))) v w middle.can_fail middle.failures now o)) is one)

still_faultless : (i : ℕ) (s : Stop) → IsFaultlessCall (Err s) → IsFaultless (Err (stopped_after i s))
still_faultless i (stop.Fault e) h = absurd h
still_faultless i (stop.Write e) h = tt

-- calls that are at hand
pub all_at_hand : {E : Type 0} (little : E → Bool) (s : StreamView E) (calls : List Call) → All (λ call. IsAtHand little s (question call)) calls → AreCached s (run_ranges little s (map question calls))
all_at_hand little s [] h = tt
all_at_hand little s (call ∷ calls) h =
    cached_append s (call_ranges little s (question call)) (run_ranges little s (map question calls)) (All-head (λ call. IsAtHand little s (question call)) call calls h) (all_at_hand little s calls (All-tail (λ call. IsAtHand little s (question call)) call calls h))

-- ---- what is used, and what is cached

module _ {E : Type 0} (little : E → Bool) (s : StreamView E) where
  abbrev all : List Call → List (ℕ × ℕ)
  all calls = run_ranges little s (map question calls)

  -- the ranges of one call are requested, and are cached if all are
  one_requested : (calls : List Call) (i : ℕ) (d : Call) (start end : ℕ) → i < length calls → IsRequested (call_ranges little s (question (get_or calls i d))) start end → IsRequested (all calls) start end
  one_requested [] i d start end within h = let no : ⊥ = omega arith in absurd no
  one_requested (call ∷ calls) zero d start end within h = requested_front (call_ranges little s (question call)) (all calls) start end h
  one_requested (call ∷ calls) (suc i) d start end within h = requested_back (call_ranges little s (question call)) (all calls) start end (one_requested calls i d start end (omega arith) h)

  one_cached : (calls : List Call) (i : ℕ) (d : Call) → i < length calls → AreCached s (all calls) → AreCached s (call_ranges little s (question (get_or calls i d)))
  one_cached [] i d within h = let no : ⊥ = omega arith in absurd no
  one_cached (call ∷ calls) zero d within h = cached_front s (call_ranges little s (question call)) (all calls) h
  one_cached (call ∷ calls) (suc i) d within h = one_cached calls i d (omega arith) (cached_back s (call_ranges little s (question call)) (all calls) h)

call_at : (calls : List Call) (i : ℕ) (d : Call) → i < length calls → slice_get (map question calls) i ≡ Some (question (get_or calls i d))
call_at [] i d within = let no : ⊥ = omega arith in absurd no
call_at (call ∷ calls) zero d within = refl
call_at (call ∷ calls) (suc i) d within = call_at calls i d (omega arith)

-- a fault of the call is one of the run, at that call
fault_at : (calls : List Call) (i : ℕ) (d : Call) (s : Stop) (P : Question → ParseError → Type 0) → i < length calls → IfFault (Err s) (λ e. P (question (get_or calls i d)) e) → IfFaultAt (map question calls) (Err (stopped_after i s)) P
fault_at calls i d (stop.Fault e) P within h = subst (λ o. IfSome o (λ call. P call e)) (sym (call_at calls i d within)) h
fault_at calls i d (stop.Write e) P within h = tt

-- the calls so far cached nothing else
pub record HasUsed {E : Type 0} (little : E → Bool) (calls : List Call) (old new : StreamView E) : Type 0 where
  pub only : (start end : ℕ) → IsCached new start end → IsCached old start end ⊎ IsRequested (run_ranges little old (map question calls)) start end
  pub untouched : AreCached old (run_ranges little old (map question calls)) → new ≡ old

pub none_used : {E : Type 0} (little : E → Bool) (calls : List Call) (old : StreamView E) → HasUsed little calls old old
none_used little calls old = record { only = λ start end h. inl h; untouched = λ _. refl }

module _ {E : Type 0} (little : E → Bool) (old middle new : StreamView E) (calls : List Call) (i : ℕ) (d : Call) (keeps : Keeps old middle) (within : i < length calls) (used : HasUsed little calls old middle) where
  abbrev here : Question
  here = question (get_or calls i d)

  at_one : (start end : ℕ) → IsCached middle start end ⊎ IsRequested (call_ranges little middle here) start end → IsCached old start end ⊎ IsRequested (run_ranges little old (map question calls)) start end
  at_one start end (inl before) = used.only start end before
  at_one start end (inr there) = inr (one_requested little old calls i d start end within (subst (λ rs. IsRequested rs start end) (same_ranges little old middle here keeps) there))

  pub here_cached : AreCached old (run_ranges little old (map question calls)) → AreCached middle (call_ranges little middle here)
  here_cached cached = ranges_later little old middle here keeps (still_cached old middle (call_ranges little old here) keeps (one_cached little old calls i d within cached))

  -- one call more
  pub more_used : ((start end : ℕ) → IsCached new start end → IsCached middle start end ⊎ IsRequested (call_ranges little middle here) start end) → (AreCached middle (call_ranges little middle here) → new ≡ middle) → HasUsed little calls old new
  more_used only untouched = record {
    only = λ start end h. at_one start end (only start end h);
    untouched = λ cached. untouched (here_cached cached) ∙ used.untouched cached;
  }

  -- the call stopped the run
  pub stopped_use : (r : Result (Unit {0}) Stop) (s : Stop) → r ≡ Err s → (AreCached middle (call_ranges little middle here) → (new ≡ middle) × IsFaultlessCall r)
      → AreCached old (run_ranges little old (map question calls)) → (new ≡ old) × IsFaultless (Err (stopped_after i s))
  stopped_use r s is untouched cached =
      let one = untouched (here_cached cached) in
      (one.0 ∙ used.untouched cached, still_faultless i s (subst IsFaultlessCall is one.1))

  may_use : (bytes : List ℕ) (e : ParseError) → MayUse little middle new bytes here (kind e) → MayUse little old new bytes here (kind e)
  may_use bytes e h = subst (λ headers. MayUse little (record middle { headers = headers }) new bytes here (kind e)) keeps.headers h

  known_need : (known : Option (List ℕ)) (s : Stop) → IfSome known (λ bytes. IfFault (Err s) (λ e. MayUse little middle new bytes here (kind e)))
      → IfSome known (λ bytes. IfFaultAt (map question calls) (Err (stopped_after i s)) (λ call e. MayUse little old new bytes call (kind e)))
  known_need None s h = tt
  known_need (Some bytes) (stop.Fault e) h = fault_at calls i d (stop.Fault e) (λ call e. MayUse little old new bytes call (kind e)) within (may_use bytes e h)
  known_need (Some bytes) (stop.Write e) h = tt

  pub stopped_need : (r : Result (Unit {0}) Stop) (s : Stop) → r ≡ Err s → IfSome old.content (λ bytes. IfFault r (λ e. MayUse little middle new bytes here (kind e)))
      → IfSome old.content (λ bytes. IfFaultAt (map question calls) (Err (stopped_after i s)) (λ call e. MayUse little old new bytes call (kind e)))
  stopped_need r s is h = known_need old.content s (subst (λ w. IfSome old.content (λ bytes. IfFault w (λ e. MayUse little middle new bytes here (kind e)))) is h)
