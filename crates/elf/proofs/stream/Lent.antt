-- What a call leaves that loads the ranges that it requests, and then reads what is loaded.
use Rattle.std.proofs.Common.{◌≡◌, ℕ, ◌≤◌, ◌==◌, Bool, true, false, List, [], ◌∷◌, length, Option, Some, None, Result, Ok, Err, IfSome, refl, sym, ap, ◌∙◌, subst, arith}
use Rattle.std.specs.Prelude.{IfErr, IfOk, IsErr, IsOk, if◌then◌else◌, is_err, is_ok}
use Rattle.std.proofs.lemmas.Bool.Decides.{nat_tests}
use Rattle.elf_records.specs.Number.{bytes_at, ok_map}
use Rattle.elf_records.specs.declared.parse.ParseError.{ParseError}
use Rattle.elf_records.specs.declared.section.SectionHeader.{SectionHeader}
use Rattle.elf_reading.proofs.steps.Ranges.{not_ok, read_is_within, refused_not}
use Rattle.elf_reading.specs.Refusals.{HasReason, IsAnswer, Kind, kind}
use Rattle.elf_parts.specs.Note.{notes_in}
use Rattle.elf_parts.specs.gnu_symver.Table.{Versions}
use Rattle.elf_records.specs.declared.segment.ProgramHeader.{ProgramHeader}
use Rattle.elf.specs.Answers.{segment_data_as_notes, symbol_version_table}
use Rattle.elf.specs.Data.{content, content_of_type}
use Rattle.elf.specs.ElfStream.{Leaves, StreamView}
use Rattle.elf.specs.Loaded.{AreLoadedOf, loaded_ranges, streamed_file}
use Rattle.elf.specs.ObjectFile.{FileOf, ObjectFile, Partial, err_map}
use Rattle.elf.specs.Parts.{IsPlain, as_parse_error, loaded}
use Rattle.elf.specs.Ranges.{headers_alone, if_chosen, plan_ranges, version_plan, versions_ranges}
use Rattle.elf.specs.StreamFile.{listed_file, stream_file}
use Rattle.elf.specs.declared.read_error.ReadError.{ReadError}
use Rattle.elf.specs.declared.read_error.ReadError.TheVariants.{Parse, NotLoaded}
use Rattle.elf.specs.inner.Loads.{AreThere, Loads}
use Rattle.elf.proofs.Partly.{AreSame}
use Rattle.elf.proofs.stream.Needs.{content_needs, ok_inside, versions_need}
use Rattle.elf.proofs.stream.Steps.{left_given}
use Rattle.elf.proofs.stream.Parted.{loaded_same, streamed_loaded}

-- ---- an answer whose ranges were loaded

-- a result is the answer, or both are errors
abbrev pub IsGiven : {T Y : Type 0} → (T → Y) → Result Y ParseError → Result T ParseError → Type 0
IsGiven shown answer (Ok x) = answer ≡ Ok (shown x)
IsGiven shown answer (Err e) = IsErr answer

answers : {T Y : Type 0} (known : Option (List ℕ)) (rs : List (ℕ × ℕ)) (shown : T → Y) (answer : List ℕ → Result Y ParseError) (before now : ℕ) (can_fail : Bool) (u : Unit {0}) (r : Result T ParseError) → IfErr r (λ e. kind e ≡ Kind.Refusal)
    → IfSome known (λ bytes. HasReason before now can_fail (AreThere bytes rs → ⊥) (Ok u)) → IfSome known (λ bytes. IsGiven shown (answer bytes) r) → IfSome known (λ bytes. IsAnswer shown (answer bytes) can_fail before now r)
answers None rs shown answer before now can_fail u r plain same is = tt
answers (Some bytes) rs shown answer before now can_fail u (Ok x) plain same is = (same, is)
answers (Some bytes) rs shown answer before now can_fail u (Err e) plain same is = rw plain (same, is)

pub leaves_given : {E T Y : Type 0} (old new : StreamView E) (rs : List (ℕ × ℕ)) (shown : T → Y) (answer : List ℕ → Result Y ParseError) (u : Unit {0}) (r : Result T ParseError) → Loads rs old new (Ok u) → IfErr r (λ e. kind e ≡ Kind.Refusal) → IfSome old.content (λ bytes. IsGiven shown (answer bytes) r) → Leaves rs shown answer old new r
leaves_given old new rs shown answer u r h plain is = record {
  left = left_given old new rs u r plain h.left;
  answers = answers old.content rs shown answer old.failures new.failures old.can_fail u r plain h.reason is;
}

-- ---- what is read of what is loaded

-- what `?` makes of the result over a part, beside that over the whole
made_alike : {T Y : Type 0} (shown : T → Y) (whole : Result Y ParseError) (one : Result T ReadError) → ok_map shown one ≡ err_map Parse whole → IsGiven shown whole (err_map as_parse_error one)
made_alike shown (Ok y) (Ok x) h = let same : shown x ≡ y = cc h in ap Ok (sym same)
made_alike shown (Ok y) (Err e) h = cc h
made_alike shown (Err y) (Ok x) h = cc h
made_alike shown (Err y) (Err e) h = refl

plain_made : {T : Type 0} (one : Result T ReadError) → IfErr one IsPlain → IfErr (err_map as_parse_error one) (λ e. kind e ≡ Kind.Refusal)
plain_made (Ok x) h = tt
plain_made (Err (Parse e)) h = h
plain_made (Err (NotLoaded range)) h = refl

known_so : (known : Option (List ℕ)) (P Q : List ℕ → Type 0) → IfSome known P → ((bytes : List ℕ) → P bytes → Q bytes) → IfSome known Q
known_so None P Q h so = tt
known_so (Some bytes) P Q h so = so bytes h

pub leaves_read : {E T Y : Type 0} (little : E → Bool) (old new : StreamView E) (rs : List (ℕ × ℕ)) (shown : T → Y) (whole : ObjectFile → Result Y ParseError) (part : FileOf Partial → Result Y ReadError) (u : Unit {0}) (one : Result T ReadError) (r : Result T ParseError)
    → ((bytes : List ℕ) → AreSame (stream_file little old bytes).range (loaded_ranges new) rs → part (loaded (stream_file little old bytes) (loaded_ranges new)) ≡ err_map Parse (whole (stream_file little old bytes)))
    → Loads rs old new (Ok u) → IfSome new.content (λ bytes. AreLoadedOf little new bytes) → ok_map shown one ≡ part (loaded (streamed_file little new) (loaded_ranges new)) → IfErr one IsPlain → r ≡ err_map as_parse_error one
    → Leaves rs shown (λ bytes. whole (stream_file little old bytes)) old new r
leaves_read {E} {T} {Y} little old new rs shown whole part u one r law loads is_part is plain made =
    rw made
    (leaves_given old new rs shown (λ bytes. whole (stream_file little old bytes)) u (err_map as_parse_error one) loads (plain_made one plain)
    (subst (λ known. IfSome known (λ bytes. IsGiven shown (whole (stream_file little old bytes)) (err_map as_parse_error one))) loads.left.keeps.content (known_so new.content (λ bytes. AreLoadedOf little new bytes) _ is_part given)))
  where
    given : (bytes : List ℕ) → AreLoadedOf little new bytes → IsGiven shown (whole (stream_file little old bytes)) (err_map as_parse_error one)
    given bytes h =
        let ranges = loaded_ranges new in
        let same : loaded (streamed_file little new) ranges ≡ loaded (stream_file little old bytes) ranges = streamed_loaded little new bytes h ∙ ap (λ headers. loaded (listed_file little headers bytes) ranges) loads.left.keeps.headers in
        made_alike shown (whole (stream_file little old bytes)) one (is ∙ ap part same ∙ law bytes (loaded_same little new bytes rs h loads.left.loaded))

-- the sections with the versions are not all there: nothing is loaded, and the file gives an error too
pub leaves_unplanned : {E T : Type 0} (little : E → Bool) (old : StreamView E) (shown : T → Option Versions) (e : ParseError) (r : Result T ParseError) → r ≡ Err e → kind e ≡ Kind.Refusal → version_plan (headers_alone little old) ≡ Err e → Loads [] old old (Ok tt)
    → Leaves (versions_ranges (headers_alone little old)) shown (λ bytes. symbol_version_table (stream_file little old bytes)) old old r
leaves_unplanned {E} {T} little old shown e r is plain none loads =
    rw is
    (subst (λ choice. Leaves (if_chosen plan_ranges choice) shown (λ bytes. symbol_version_table (stream_file little old bytes)) old old (Err e)) (sym none)
    (leaves_given old old [] shown (λ bytes. symbol_version_table (stream_file little old bytes)) tt (Err e) loads plain (refused old.content)))
  where
    refused : (known : Option (List ℕ)) → IfSome known (λ bytes. IsErr (symbol_version_table (stream_file little old bytes)))
    refused None = tt
    refused (Some bytes) = not_ok (symbol_version_table (stream_file little old bytes)) (λ ok. refused_not (version_plan (headers_alone little old)) (ap is_err none) (versions_need (stream_file little old bytes) ok).0)

-- ---- how much is read

pub still_ok : {T : Type 0} (P : T → Type 0) (one : Result T ReadError) (r : Result T ParseError) → r ≡ err_map as_parse_error one → IfOk one P → IfOk r P
still_ok P (Ok x) r made h = rw made h
still_ok P (Err e) r made h = rw made tt

within : (bytes : List ℕ) (start size : ℕ) (rs : List (ℕ × ℕ)) → AreThere bytes ((start, size) ∷ rs) → size ≤ length bytes
within bytes start size rs there = let inside = read_is_within bytes start size there.0 in omega (arith, inside.1)

-- a section of a type that has bytes lies in the content
pub typed_within : {E : Type 0} (little : E → Bool) (old : StreamView E) (t : ℕ) (s : SectionHeader) → (t == 8) ≡ false → (bytes : List ℕ) → IsOk (content_of_type t (stream_file little old bytes) s) → s.sh_size ≤ length bytes
typed_within little old t s full bytes ok = by_type (s.sh_type == t) _ refl ok
  where
    by_type : (is : Bool) (e : ParseError) → (s.sh_type == t) ≡ is → IsOk (if is then content (stream_file little old bytes) s else Err e) → s.sh_size ≤ length bytes
    by_type true e is ok =
        let same : s.sh_type ≡ t = grind (arith, nat_tests, is) in
        let has_bytes : (s.sh_type == 8) ≡ false = rw same full in
        within bytes s.sh_offset s.sh_size [] (rw has_bytes at (content_needs (stream_file little old bytes) s ok))
    by_type false e is ok = cc

-- so does a segment of notes
pub notes_within : {E : Type 0} (little : E → Bool) (old : StreamView E) (p : ProgramHeader) (bytes : List ℕ) → IsOk (segment_data_as_notes (stream_file little old bytes) p) → p.p_filesz ≤ length bytes
notes_within little old p bytes ok = by_type (p.p_type == 4) _ ok
  where
    by_type : (is : Bool) (e : ParseError) → IsOk (if is then ok_map (notes_in (little old.headers.ehdr.endianness) p.p_align) (bytes_at p.p_filesz bytes p.p_offset) else Err e) → p.p_filesz ≤ length bytes
    by_type true e ok = within bytes p.p_offset p.p_filesz [] (ok_inside (notes_in (little old.headers.ehdr.endianness) p.p_align) (bytes_at p.p_filesz bytes p.p_offset) ok, tt)
    by_type false e ok = cc

few_known : (known : Option (List ℕ)) (size count : ℕ) → IfSome known (λ bytes. size ≤ length bytes) → count ≤ size → IfSome known (λ bytes. count ≤ length bytes)
few_known None size count there h = tt
few_known (Some bytes) size count there h = omega (arith, there, h)

in_known : {T Y : Type 0} (size : ℕ) (known : Option (List ℕ)) (shown : T → Y) (answer : List ℕ → Result Y ParseError) (before now : ℕ) (can_fail : Bool) (x : T) → ((bytes : List ℕ) → IsOk (answer bytes) → size ≤ length bytes) → IfSome known (λ bytes. IsAnswer shown (answer bytes) can_fail before now (Ok x)) → IfSome known (λ bytes. size ≤ length bytes)
in_known size None shown answer before now can_fail x law is = tt
in_known size (Some bytes) shown answer before now can_fail x law is = law bytes (ap is_ok is.1)

-- what was read is no more than the content, if its range lies there
pub few_read : {E T X Y : Type 0} (view : T → List X) (size : ℕ) (old new : StreamView E) (rs : List (ℕ × ℕ)) (shown : T → Y) (answer : List ℕ → Result Y ParseError) (r : Result T ParseError) → ((bytes : List ℕ) → IsOk (answer bytes) → size ≤ length bytes)
    → Leaves rs shown answer old new r → IfOk r (λ x. length (view x) ≤ size) → IfOk r (λ x. IfSome old.content (λ bytes. length (view x) ≤ length bytes))
few_read view size old new rs shown answer (Ok x) law leaves h = few_known old.content size (length (view x)) (in_known size old.content shown answer old.failures new.failures old.can_fail x law leaves.answers) h
few_read view size old new rs shown answer (Err e) law leaves h = tt
