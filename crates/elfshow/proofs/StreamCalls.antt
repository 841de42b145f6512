-- What a call over a stream leaves, by what its loads leave.
use Rattle.std.proofs.Common.{◌≡◌, ℕ, ◌==◌, Bool, true, false, if◌then◌else◌, List, [], ◌∷◌, Option, Some, None, Result, Ok, Err, refl, sym, ap, ◌∙◌, subst, IfSome, inl}
use Rattle.std.proofs.lemmas.List.{append-nil}
use Rattle.std.proofs.lemmas.Option.{IfSome_then}
use Rattle.std.specs.Prelude.{IsErr, IsOk, OnOk, slice_get}
use Rattle.std.specs.Io.KnownBytes.{Appends}
use Rattle.elf_records.specs.Number.{ok_map}
use Rattle.elf_records.specs.Record.{◌>>=◌}
use Rattle.elf_records.specs.declared.file.FileHeader.{FileHeader}
use Rattle.elf_records.specs.declared.parse.ParseError.{ParseError}
use Rattle.elf_records.specs.declared.section.SectionHeader.{SectionHeader}
use Rattle.elf_reading.specs.Refusals.{IsAnswer, IsRefused, Kind, kind}
use Rattle.elf.specs.Answers.{dynamic_symbol_table}
use Rattle.elf.specs.Data.{content, content_of_type, section_data}
use Rattle.elf.specs.ElfStream.{AreCached, IsFor, IsNeeded, Keeps, Leaves, StreamView}
use Rattle.elf.specs.Loaded.{AreLoadedOf, loaded_ranges, streamed_file}
use Rattle.elf.specs.Names.{name_table}
use Rattle.elf.specs.ObjectFile.{FileOf, ObjectFile, Partial}
use Rattle.elf.specs.Parts.{loaded}
use Rattle.elf.specs.Ranges.{headers_alone}
use Rattle.elf.specs.Readers.{Method, Shown, answer, requested_ranges}
use Rattle.elf.specs.Readers as methods
use Rattle.elf.specs.StreamFile.{listed_file, stream_file}
use Rattle.elf.specs.inner.Loads.{AreThere}
use Rattle.elf.proofs.stream.Cached.{stream_alike}
use Rattle.elf.proofs.stream.Steps.{IfSome_both, cached_back, cached_front, left_error, left_given, left_stop, left_then}
use Rattle.elfshow_lines.specs.NoAnswer.{refused_line}
use Rattle.elfshow.specs.Question.{Question, Header, Sections, Segments, Name, Data, Strings, Rels, Relas, Notes, Seg}
use Rattle.elfshow.specs.Question.{SegNotes, Symbols, DynSyms, Dynamic, Versions, Hash}
use Rattle.elfshow.specs.Ranges.{all_answered, call_ranges, if_present, loads_of, ranges_of, section_of_type}
use Rattle.elfshow.specs.Ranges.{segment_of_type}
use Rattle.elfshow.specs.Stream.{IfFault, IsFaultlessCall, IsLoaded, MayUse, RanCall, RanOne, stream_answer}
use Rattle.elfshow.specs.Text.{call_answer, call_text, or_refused, unless_absent}
use Rattle.elfshow.specs.declared.stream.Stop.{Stop}
use Rattle.elfshow.specs.declared.stream.Stop.TheVariants as stop
use Rattle.elfshow.specs.inner.CallSteps.{IsWritten, LeadsTo, LeavesAll}
use Rattle.elfshow.proofs.SameTexts.{AllAlike, call_alike, text_alike}

-- ---- a stream that keeps its file

pub same_file : {E : Type 0} (little : E → Bool) (old new : StreamView E) (bytes : List ℕ) → Keeps old new → stream_file little new bytes ≡ stream_file little old bytes
same_file little old new bytes keeps = ap (λ h. listed_file little h bytes) keeps.headers

pub same_ranges : {E : Type 0} (little : E → Bool) (old new : StreamView E) (call : Question) → Keeps old new → call_ranges little new call ≡ call_ranges little old call
same_ranges little old new call keeps = ap (λ h. ranges_of (listed_file little h []) (loads_of h.sections h.segments call)) keeps.headers

pub same_answer : {E : Type 0} (little : E → Bool) (call : Question) (old new : StreamView E) (bytes : List ℕ) → Keeps old new → stream_answer little new bytes call ≡ stream_answer little old bytes call
same_answer little call old new bytes keeps = ap (λ h. call_answer h.ehdr (listed_file little h bytes) call) keeps.headers

everywhere : (known : Option (List ℕ)) (P : List ℕ → Type 0) → ((bytes : List ℕ) → P bytes) → IfSome known P
everywhere None P h = tt
everywhere (Some bytes) P h = h bytes

-- ---- one load

-- the value of a result is dropped
abbrev pub dropped : {A : Type 0} → Result A ParseError → Result (Unit {0}) ParseError
dropped (Ok x) = Ok tt
dropped (Err e) = Err e

abbrev done : Result (Unit {0}) ParseError
done = Ok tt

err_kept : {A B : Type 0} (r : Result A ParseError) (f : A → Result B ParseError) → IsErr r → IsErr (r >>= f)
err_kept (Ok x) f h = cc h
err_kept (Err e) f h = refl

refused_so : (k : Kind) (P Q : Type 0) (before now : ℕ) (can_fail : Bool) → (P → Q) → IsRefused before now can_fail P k → IsRefused before now can_fail Q k
refused_so Kind.SourceFailure P Q before now can_fail so h = h
refused_so Kind.AllocationFailure P Q before now can_fail so h = h
refused_so Kind.Refusal P Q before now can_fail so h = (h.0, so h.1)

module _ {E T Y : Type 0} (old new : StreamView E) (requested : List (ℕ × ℕ)) (shown : T → Y) (answer : List ℕ → Result Y ParseError) where
  -- what a call leaves whose value is dropped
  leaves_dropped : (whole : Result T ParseError) → Leaves requested shown answer old new whole → Leaves requested (λ x. x) (λ bytes. answer bytes >>= λ _. done) old new (dropped whole)
  leaves_dropped (Ok x) h = record {
    left = left_given old new requested x done tt h.left;
    answers = IfSome_then old.content h.answers (λ bytes a. (a.0, ap (λ r. r >>= λ _. done) a.1));
  }
  leaves_dropped (Err e) h = record {
    left = left_error old new requested e h.left;
    answers = IfSome_then old.content h.answers (λ bytes a. refused_so (kind e) (IsErr (answer bytes)) (IsErr (answer bytes >>= λ _. done)) old.failures new.failures old.can_fail (err_kept (answer bytes) (λ _. done)) a);
  }

module _ {E : Type 0} (little : E → Bool) where
  pub one_loaded : {T : Type 0} (old new : StreamView E) (m : Method) (shown : T → Shown m) (whole : Result T ParseError) (r : Result (Unit {0}) ParseError)
      → Leaves (requested_ranges m (headers_alone little old)) shown (λ bytes. answer m (stream_file little old bytes)) old new whole → dropped whole ≡ r → LeavesAll little (m ∷ []) old new r
  one_loaded old new m shown whole r h is =
      let rs = requested_ranges m (headers_alone little old) in
      let file = stream_file little old in
      subst (λ r. LeavesAll little (m ∷ []) old new r) is
      (subst (λ rs. Leaves rs (λ x. x) (λ bytes. answer m (file bytes) >>= λ _. done) old new (dropped whole)) (sym (append-nil rs)) (leaves_dropped old new rs shown (λ bytes. answer m (file bytes)) whole h))

  -- nothing is to be loaded
  pub none_loaded : (s : StreamView E) → LeavesAll little [] s s (Ok tt)
  none_loaded s = record {
    left = record {
      keeps = record { content = refl; can_fail = refl; by_segments = refl; headers = refl; size = refl; cached = λ start end h. h };
      loaded = tt;
      only = λ start end h. inl h;
      untouched = λ cached. (refl, tt);
      needed = everywhere s.content (λ _. Unit {0}) (λ bytes. tt);
    };
    answers = everywhere s.content (λ bytes. IsAnswer (λ x. x) done s.can_fail s.failures s.failures done) (λ bytes. (refl, refl));
  }

-- what is loaded for a header that is there
pub present_loaded : {E H : Type 0} (little : E → Bool) (old new : StreamView E) (wanted : H → Bool) (m : H → Method) (o : Option H) (header : H) (r : Result (Unit {0}) ParseError) → o ≡ Some header → wanted header ≡ true
    → LeavesAll little (m header ∷ []) old new r → LeavesAll little (if_present (λ header. if wanted header then m header ∷ [] else []) o) old new r
present_loaded little old new wanted m o header r there is h = rw (there, is) h

-- ---- one load after another

answered_then : {A : Type 0} (first : Result A ParseError) (rest : Result (Unit {0}) ParseError) (x : Unit {0}) (before now : ℕ) (can_fail : Bool) (r : Result (Unit {0}) ParseError) → (first >>= λ _. done) ≡ Ok x
    → IsAnswer (λ x. x) rest can_fail before now r → IsAnswer (λ x. x) (first >>= λ _. rest) can_fail before now r
answered_then (Ok a) rest x before now can_fail r is h = h
answered_then (Err e) rest x before now can_fail r is h = cc is

err_first : {A B : Type 0} (first : Result A ParseError) (f : A → Result B ParseError) → IsErr (first >>= λ _. done) → IsErr (first >>= f)
err_first (Ok a) f h = cc h
err_first (Err e) f h = refl

ok_known : {A : Type 0} (first : Result A ParseError) (x : Unit {0}) → (first >>= λ _. done) ≡ Ok x → IsOk first
ok_known (Ok a) x h = refl
ok_known (Err e) x h = cc h

module _ {E : Type 0} (little : E → Bool) (old middle : StreamView E) (m : Method) (rest : List Method) where
  abbrev rs : List (ℕ × ℕ)
  rs = requested_ranges m (headers_alone little old)

  abbrev qs : List (ℕ × ℕ)
  qs = ranges_of (headers_alone little old) rest

  abbrev first : List ℕ → Result (Shown m) ParseError
  first bytes = answer m (stream_file little old bytes)

  abbrev behind : List ℕ → Result (Unit {0}) ParseError
  behind bytes = all_answered (stream_file little old bytes) rest

  abbrev First : Result (Unit {0}) ParseError → Type 0
  First r = Leaves rs (λ x. x) (λ bytes. first bytes >>= λ _. done) old middle r

  -- the first is refused
  refused_by : (e : ParseError) → First (Err e) → LeavesAll little (m ∷ rest) old middle (Err e)
  refused_by e h = record {
    left = left_stop old middle rs qs e h.left;
    answers = IfSome_then old.content h.answers (λ bytes a. refused_so (kind e) (IsErr (first bytes >>= λ _. done)) (IsErr (first bytes >>= λ _. behind bytes)) old.failures middle.failures old.can_fail (err_first (first bytes) (λ _. behind bytes)) a);
  }

  pub first_refused : (e : ParseError) (r : Result (Unit {0}) ParseError) → r ≡ Err e → LeavesAll little (m ∷ []) old middle r → LeavesAll little (m ∷ rest) old middle (Err e)
  first_refused e r is h =
      refused_by e (subst (λ rs. Leaves rs (λ x. x) (λ bytes. first bytes >>= λ _. done) old middle (Err e)) (append-nil rs) (subst (λ r. LeavesAll little (m ∷ []) old middle r) is h))

  loaded_by : (new : StreamView E) (x : Unit {0}) (r : Result (Unit {0}) ParseError) → ((bytes : List ℕ) → IsOk (first bytes) → AreThere bytes rs)
      → First (Ok x) → Leaves qs (λ x. x) behind middle new r → LeavesAll little (m ∷ rest) old new r
  loaded_by new x r there a b = record {
    left = left_then old middle new rs qs x r (IfSome_then old.content a.answers (λ bytes one. there bytes (ok_known (first bytes) x one.1))) a.left b.left;
    answers = IfSome_both old.content a.answers (subst (λ known. IfSome known (λ bytes. IsAnswer (λ x. x) (behind bytes) middle.can_fail middle.failures new.failures r)) a.left.keeps.content b.answers) (λ bytes one two.
        answered_then (first bytes) (behind bytes) x old.failures new.failures old.can_fail r one.1
        (subst (λ count. IsAnswer (λ x. x) (behind bytes) old.can_fail count new.failures r) one.0
        (subst (λ can_fail. IsAnswer (λ x. x) (behind bytes) can_fail middle.failures new.failures r) a.left.keeps.can_fail two)));
  }

  pub then_loaded : (new : StreamView E) (x : Unit {0}) (r s : Result (Unit {0}) ParseError) → ((bytes : List ℕ) → IsOk (first bytes) → AreThere bytes rs) → r ≡ Ok x
      → LeavesAll little (m ∷ []) old middle r → LeavesAll little rest middle new s → LeavesAll little (m ∷ rest) old new s
  then_loaded new x r s there is a b =
      let one : First (Ok x) = subst (λ rs. Leaves rs (λ x. x) (λ bytes. first bytes >>= λ _. done) old middle (Ok x)) (append-nil rs) (subst (λ r. LeavesAll little (m ∷ []) old middle r) is a) in
      loaded_by new x s there one
      (subst (λ h. Leaves (ranges_of (listed_file little h []) rest) (λ x. x) (λ bytes. all_answered (listed_file little h bytes) rest) middle new s) one.left.keeps.headers b)

-- ---- a method of a call that is refused

one_refused : {A B : Type 0} (f : A → B) (r : Result A ParseError) → IsErr (r >>= λ _. done) → IsErr (ok_map f r)
one_refused f (Ok x) h = cc h
one_refused f (Err e) h = refl

abbrev beside : {A B : Type 0} → A → B → A × B
beside a x = (a, x)

pair_refused : {A B C : Type 0} (a : A) (f : B → C) (r : Result B ParseError) → IsErr (ok_map (beside a) r >>= λ _. done) → IsErr (ok_map f r)
pair_refused a f (Ok x) h = cc h
pair_refused a f (Err e) h = refl

map_refused : {A B : Type 0} (f : A → B) (r : Result A ParseError) → IsErr r → IsErr (ok_map f r)
map_refused f (Ok x) h = cc h
map_refused f (Err e) h = refl

two_refused : {A B C : Type 0} (p : Result A ParseError) (q : Result B ParseError) (f : A → B → Result C ParseError) → IsErr (p >>= λ _. q >>= λ _. done) → IsErr (p >>= λ x. q >>= λ y. f x y)
two_refused (Ok x) (Ok y) f h = cc h
two_refused (Ok x) (Err e) f h = refl
two_refused (Err e) q f h = refl

versions_refused : {A B C : Type 0} (p : Result A ParseError) (q : Result B ParseError) (f : A → B → C) → IsErr (p >>= λ _. q >>= λ _. done) → IsErr (p >>= λ x. ok_map (f x) q)
versions_refused (Ok x) q f h = one_refused (f x) q h
versions_refused (Err e) q f h = refl

module _ (file : ObjectFile) where
  abbrev Refused : List Method → Type 0
  Refused ms = IsErr (all_answered file ms)

  present_refused : {H : Type 0} (loads : H → List Method) (a : H → Result (List ℕ) ParseError) (o : Option H) → ((header : H) → Refused (loads header) → IsErr (a header)) → Refused (if_present loads o) → IsErr (unless_absent a o)
  present_refused loads a None each h = cc h
  present_refused loads a (Some header) each h = each header h

  type_refused : {A : Type 0} (is : Bool) (m : Method) (p : Result A ParseError) (e : ParseError) → (IsErr (answer m file >>= λ _. done) → IsErr p) → Refused (if is then m ∷ [] else []) → IsErr (if is then p else Err e)
  type_refused true m p e so h = so h
  type_refused false m p e so h = refl

  typed_refused : (t : ℕ) (s : SectionHeader) → Refused (section_of_type t s) → IsErr (content_of_type t file s)
  typed_refused t s = type_refused (s.sh_type == t) (methods.SectionData s) (content file s) _ (one_refused _ (section_data file s))

  refused : {E : Type 0} (h : FileHeader E) (call : Question) → Refused (loads_of file.sections file.segments call) → IsErr (call_answer h file call)
  refused h Header none = cc none
  refused h Sections none = pair_refused file.sections _ (name_table file) none
  refused h Segments none = cc none
  refused h (Name name) none = map_refused _ (ok_map _ (name_table file)) (pair_refused file.sections _ (name_table file) none)
  refused h (Data i) none = present_refused (λ s. methods.SectionData s ∷ []) _ (slice_get file.sections i) (λ s none. one_refused _ (section_data file s) none) none
  refused h (Strings i) none = present_refused (section_of_type 3) _ (slice_get file.sections i) (λ s none. map_refused _ (content_of_type 3 file s) (typed_refused 3 s none)) none
  refused h (Rels i) none = present_refused (section_of_type 9) _ (slice_get file.sections i) (λ s none. map_refused _ (ok_map _ (content_of_type 9 file s)) (map_refused _ (content_of_type 9 file s) (typed_refused 9 s none))) none
  refused h (Relas i) none = present_refused (section_of_type 4) _ (slice_get file.sections i) (λ s none. map_refused _ (ok_map _ (content_of_type 4 file s)) (map_refused _ (content_of_type 4 file s) (typed_refused 4 s none))) none
  refused h (Notes i) none = present_refused (section_of_type 7) _ (slice_get file.sections i) (λ s none. map_refused _ (ok_map _ (content_of_type 7 file s)) (map_refused _ (content_of_type 7 file s) (typed_refused 7 s none))) none
  refused h (Seg j) none = present_refused (λ p. methods.SegmentData p ∷ []) _ (slice_get file.segments j) (λ p none. one_refused _ (file.range p.p_offset p.p_filesz) none) none
  refused h (SegNotes j) none =
      present_refused (segment_of_type 4) _ (slice_get file.segments j) (λ p none. map_refused _ _ (type_refused (p.p_type == 4) (methods.SegmentData p) _ _ (one_refused _ (file.range p.p_offset p.p_filesz)) none)) none
  refused h Symbols none = one_refused _ _ none
  refused h DynSyms none = one_refused _ _ none
  refused h Dynamic none = one_refused _ _ none
  refused h Versions none = versions_refused _ _ _ none
  refused h (Hash kind i) none =
      present_refused (λ s. methods.SectionData s ∷ methods.DynamicSymbolTable ∷ []) _ (slice_get file.sections i) (λ s none. map_refused _ _ (two_refused (section_data file s) (dynamic_symbol_table file) _ none)) none

-- ---- the text of what is loaded

module _ {E : Type 0} (little : E → Bool) (s : StreamView E) (bytes : List ℕ) (known : AreLoadedOf little s bytes) where
  abbrev part : FileOf Partial
  part = loaded (streamed_file little s) (loaded_ranges s)

  cached_alike : (ms : List Method) → AreCached s (ranges_of (headers_alone little s) ms) → AllAlike (stream_file little s bytes) part ms
  cached_alike [] cached = tt
  cached_alike (m ∷ ms) cached =
      let rs = requested_ranges m (headers_alone little s) in
      let qs = ranges_of (headers_alone little s) ms in
      (stream_alike little s bytes known m (cached_front s rs qs cached), cached_alike ms (cached_back s rs qs cached))

  loaded_text : (call : Question) → AreCached s (call_ranges little s call) → call_text s.headers.ehdr part call ≡ or_refused (stream_answer little s bytes call)
  loaded_text call cached =
      sym (text_alike (stream_answer little s bytes call) (call_answer s.headers.ehdr part call)
      (call_alike (stream_file little s bytes) part refl refl refl refl s.headers.ehdr call (cached_alike (loads_of s.headers.sections s.headers.segments call) cached)))

-- ---- a call

faultless : {A X : Type 0} (w : Result A X) (r : Result (Unit {0}) Stop) → IsWritten w r → IsFaultlessCall r
faultless (Ok x) (Ok y) h = tt
faultless (Ok x) (Err (stop.Fault e)) h = absurd h
faultless (Ok x) (Err (stop.Write e)) h = absurd h
faultless (Err x) (Ok y) h = absurd h
faultless (Err x) (Err (stop.Fault e)) h = absurd h
faultless (Err x) (Err (stop.Write e)) h = tt

ran_written : {A X : Type 0} (answer : Result (List ℕ) ParseError) (old new : Option (List ℕ)) (before now : ℕ) (can_fail : Bool) (w : Result A X) (r : Result (Unit {0}) Stop) → now ≡ before → OnOk w (Appends old new (or_refused answer)) → IsWritten w r → RanOne answer old new can_fail before now r
ran_written answer old new before now can_fail (Ok x) (Ok y) same h is = (same, h)
ran_written answer old new before now can_fail (Ok x) (Err (stop.Fault e)) same h is = absurd is
ran_written answer old new before now can_fail (Ok x) (Err (stop.Write e)) same h is = absurd is
ran_written answer old new before now can_fail (Err x) (Ok y) same h is = absurd is
ran_written answer old new before now can_fail (Err x) (Err (stop.Fault e)) same h is = absurd is
ran_written answer old new before now can_fail (Err x) (Err (stop.Write e)) same h is = same

no_fault_so : (r : Result (Unit {0}) Stop) (P : ParseError → Type 0) → IsFaultlessCall r → IfFault r P
no_fault_so (Ok x) P h = tt
no_fault_so (Err (stop.Fault e)) P h = absurd h
no_fault_so (Err (stop.Write e)) P h = tt

known_refused : (answer : Result (List ℕ) ParseError) → IsErr answer → or_refused answer ≡ refused_line
known_refused (Ok text) h = cc
known_refused (Err e) h = refl

ran_refused : (k : Kind) (answer : Result (List ℕ) ParseError) (old new : Option (List ℕ)) (before now : ℕ) (can_fail : Bool) (r : Result (Unit {0}) Stop)
    → IsRefused before now can_fail (IsErr answer) k → LeadsTo k old new r → RanOne answer old new can_fail before now r
ran_refused Kind.SourceFailure answer old new before now can_fail (Ok x) h leads = absurd leads.1
ran_refused Kind.SourceFailure answer old new before now can_fail (Err (stop.Fault e)) h leads = (leads.0, subst (λ k. IsRefused before now can_fail ⊥ k) (sym leads.1) h)
ran_refused Kind.SourceFailure answer old new before now can_fail (Err (stop.Write e)) h leads = absurd leads.1
ran_refused Kind.AllocationFailure answer old new before now can_fail (Ok x) h leads = absurd leads.1
ran_refused Kind.AllocationFailure answer old new before now can_fail (Err (stop.Fault e)) h leads = (leads.0, subst (λ k. IsRefused before now can_fail ⊥ k) (sym leads.1) h)
ran_refused Kind.AllocationFailure answer old new before now can_fail (Err (stop.Write e)) h leads = absurd leads.1
ran_refused Kind.Refusal answer old new before now can_fail (Ok x) h leads = (h.0, subst (λ bytes. Appends old new bytes) (sym (known_refused answer h.1)) leads)
ran_refused Kind.Refusal answer old new before now can_fail (Err (stop.Fault e)) h leads = absurd leads
ran_refused Kind.Refusal answer old new before now can_fail (Err (stop.Write e)) h leads = h.0

-- a fault is of the kind of the error that led to it
fault_for : (k : Kind) (need : Type 0) (old new : Option (List ℕ)) (r : Result (Unit {0}) Stop) → LeadsTo k old new r → IsFor need k → IfFault r (λ e. IsFor need (kind e))
fault_for k need old new (Ok x) leads used = tt
fault_for k need old new (Err (stop.Write e)) leads used = tt
fault_for Kind.SourceFailure need old new (Err (stop.Fault e)) leads used = subst (λ k. IsFor need k) (sym leads.1) used
fault_for Kind.AllocationFailure need old new (Err (stop.Fault e)) leads used = subst (λ k. IsFor need k) (sym leads.1) used
fault_for Kind.Refusal need old new (Err (stop.Fault e)) leads used = absurd leads

refusal_faultless : (k : Kind) (old new : Option (List ℕ)) (r : Result (Unit {0}) Stop) → k ≡ Kind.Refusal → LeadsTo k old new r → IsFaultlessCall r
refusal_faultless k old new (Ok x) is leads = tt
refusal_faultless k old new (Err (stop.Write e)) is leads = tt
refusal_faultless k old new (Err (stop.Fault e)) is leads = absurd (subst (λ k. LeadsTo k old new (Err (stop.Fault e))) is leads)

ok_or_err : {A : Type 0} (r : Result A ParseError) → IsOk r → IsErr r → ⊥
ok_or_err (Ok x) ok err = cc
ok_or_err (Err e) ok err = cc

module _ {E : Type 0} (little : E → Bool) (call : Question) (old new : StreamView E) (before after : Option (List ℕ)) where
  abbrev loads : List Method
  loads = loads_of old.headers.sections old.headers.segments call

  abbrev asked : List (ℕ × ℕ)
  asked = call_ranges little old call

  on_ok : (r : Result (Unit {0}) Stop) (P : Type 0) → P → OnOk r P
  on_ok (Ok x) P h = h
  on_ok (Err e) P h = tt

  pub written_call : {X : Type 0} (whole : Result (Unit {0}) ParseError) (x : Unit {0}) (w : Result (Unit {0}) X) (r : Result (Unit {0}) Stop) → LeavesAll little loads old new whole → whole ≡ Ok x → IfSome new.content (λ bytes. AreLoadedOf little new bytes)
      → OnOk w (Appends before after (call_text new.headers.ehdr (loaded (streamed_file little new) (loaded_ranges new)) call)) → IsWritten w r → RanCall little call old new before after r
  written_call whole x w r made is known wrote so =
      let h : LeavesAll little loads old new (Ok x) = subst (λ r. LeavesAll little loads old new r) is made in
      let there : AreCached new (call_ranges little new call) = subst (λ rs. AreCached new rs) (sym (same_ranges little old new call h.left.keeps)) h.left.loaded in
      record {
        keeps = h.left.keeps;
        ran = IfSome_both old.content h.answers (subst (λ content. IfSome content (λ bytes. AreLoadedOf little new bytes)) h.left.keeps.content known) (λ bytes a known.
            ran_written (stream_answer little old bytes call) before after old.failures new.failures old.can_fail w r a.0
            (subst (λ text. OnOk w (Appends before after text)) (loaded_text little new bytes known call there ∙ ap or_refused (same_answer little call old new bytes h.left.keeps)) wrote) so);
        only = h.left.only;
        untouched = λ cached. ((h.left.untouched cached).0, faultless w r so);
        needed = everywhere old.content (λ bytes. IfFault r (λ e. MayUse little old new bytes call (kind e))) (λ bytes. no_fault_so r (λ e. MayUse little old new bytes call (kind e)) (faultless w r so));
        loaded = on_ok r (IfSome old.content (λ bytes. IsLoaded little new bytes call)) (everywhere old.content (λ bytes. IsLoaded little new bytes call) (λ bytes ok. there));
      }

  pub refused_call : (whole : Result (Unit {0}) ParseError) (e : ParseError) (r : Result (Unit {0}) Stop) → LeavesAll little loads old new whole → whole ≡ Err e → LeadsTo (kind e) before after r → RanCall little call old new before after r
  refused_call whole e r made is leads =
      let h : LeavesAll little loads old new (Err e) = subst (λ r. LeavesAll little loads old new r) is made in
      let why = IfSome_then old.content h.answers (λ bytes a. refused_so (kind e) (IsErr (all_answered (stream_file little old bytes) loads)) (IsErr (stream_answer little old bytes call)) old.failures new.failures old.can_fail (refused (stream_file little old bytes) old.headers.ehdr call) a) in
      record {
        keeps = h.left.keeps;
        ran = IfSome_then old.content why (λ bytes a. ran_refused (kind e) (stream_answer little old bytes call) before after old.failures new.failures old.can_fail r a leads);
        only = h.left.only;
        untouched = λ cached. let used = h.left.untouched cached in (used.0, refusal_faultless (kind e) before after r used.1 leads);
        needed = IfSome_then old.content h.left.needed (λ bytes n. fault_for (kind e) (IsNeeded bytes new asked) before after r leads n);
        loaded = never_loaded r (kind e) h.left.keeps leads why;
      }
    where
      refused_ok : (k : Kind) (x : Unit {0}) (bytes : List ℕ) {P : Type 0} → LeadsTo k before after (Ok x) → IsRefused old.failures new.failures old.can_fail (IsErr (stream_answer little old bytes call)) k → IsOk (stream_answer little old bytes call) → P
      refused_ok Kind.SourceFailure x bytes leads a ok = absurd leads.1
      refused_ok Kind.AllocationFailure x bytes leads a ok = absurd leads.1
      refused_ok Kind.Refusal x bytes leads a ok = absurd (ok_or_err (stream_answer little old bytes call) ok a.1)

      never_loaded : (r : Result (Unit {0}) Stop) (k : Kind) → Keeps old new → LeadsTo k before after r → IfSome old.content (λ bytes. IsRefused old.failures new.failures old.can_fail (IsErr (stream_answer little old bytes call)) k)
          → OnOk r (IfSome old.content (λ bytes. IsOk (stream_answer little new bytes call) → AreCached new (call_ranges little new call)))
      never_loaded (Ok x) k keeps leads why = IfSome_then old.content why (λ bytes a ok. refused_ok k x bytes leads a (subst IsOk (same_answer little call old new bytes keeps) ok))
      never_loaded (Err s) k keeps leads why = tt
