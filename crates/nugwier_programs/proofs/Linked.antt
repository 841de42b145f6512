-- What is loaded of a file is of the file that its content holds.
use Rattle.std.proofs.Common.{◌≡◌, ℕ, Bool, true, false, List, [], Option, Some, None, Result, Ok, Err, refl, sym, subst, ap, ◌∙◌}
use Rattle.std.specs.Prelude.{IfOk, IfSome, IsErr}
use Rattle.std.specs.Option.{option_map}
use Rattle.elf_records.specs.Endian.{any_is_little, any_of_byte}
use Rattle.elf_records.specs.Number.{ok_map}
use Rattle.elf_records.specs.declared.endian.AnyEndian.{AnyEndian}
use Rattle.elf_records.specs.declared.parse.ParseError.{ParseError}
use Rattle.elf_reading.specs.Opening.{FileView, StreamHeaders, headers_of, opened_by_segments, opened_file}
use Rattle.elf.specs.ElfStream.{IsClosed, Keeps, StreamView, opened_as}
use Rattle.elf.specs.StreamFile.{listed_file, stream_file}
use Rattle.elf.proofs.Same.{opened_as_is}
use Rattle.elf_linking.proofs.Known.{if_known, when_known}
use Rattle.elf_linking.specs.Following.{SameLinks}
use Rattle.elf_linking.specs.Missing.{loaded_part}
use Rattle.elf_libraries.specs.Tree.{found_view, linked_file, or_other}
use Rattle.elf_libraries.specs.declared.tree.LoadedFile.{LoadedFile}
use Rattle.nugwier_programs.specs.Bindings.{Gone, IsOpeningBy, IsOpeningIf, IsOpeningOf, IsPartOf, Loaded, Opening, Refused}
use Rattle.nugwier_programs.specs.inner.Opening.{IsLinkedTo, IsLoadedFrom}
use Rattle.nugwier_programs.specs.inner.Scope.{open_at}
use Rattle.nugwier_programs.specs.Tree.{Known}

part_same : (s t : StreamView AnyEndian) → IsClosed s t → loaded_part any_is_little t ≡ loaded_part any_is_little s
part_same s t closed = rw (closed.headers, closed.size, closed.parts) refl

headers_are : (r : Result (FileView AnyEndian) ParseError) (h : StreamHeaders AnyEndian) → ok_map headers_of r ≡ Ok h → (v : FileView AnyEndian) × (r ≡ Ok v) × (headers_of v ≡ h)
headers_are (Ok v) h is = (v, refl, cc is)
headers_are (Err e) h is = absurd (cc is)

neither : (first other : Result (FileView AnyEndian) ParseError) (e : ParseError) → first ≡ Err e → IsErr other → or_other first other ≡ Err e
neither first (Ok x) e h lost = absurd (cc lost)
neither first (Err later) e h lost = ap (λ r. or_other r (Err later)) h

-- what is loaded of a stream over known content is of the file that has these headers and this content
pub linked : (bytes : List ℕ) (v : FileView AnyEndian) (s new closed : StreamView AnyEndian) → s.content ≡ Some bytes → v.bytes ≡ bytes → s.headers ≡ headers_of v → Keeps s new
    → IfSome new.content (λ bytes. SameLinks (stream_file any_is_little new bytes) (loaded_part any_is_little new)) → IsClosed new closed → IsPartOf v (open_at [] closed)
linked bytes v s new closed known whole opened keeps links is =
    let headers : headers_of v ≡ new.headers = sym opened ∙ sym keeps.headers in
    let same = if_known new.content bytes _ links (keeps.content ∙ known) in
    let file : stream_file any_is_little new bytes ≡ listed_file any_is_little (headers_of v) v.bytes =
    ap (λ (h : StreamHeaders AnyEndian). listed_file any_is_little h bytes) (sym headers) ∙ ap (listed_file any_is_little (headers_of v)) (sym whole) in
    let part = subst (λ p. SameLinks (stream_file any_is_little new bytes) p) (sym (part_same new closed is)) same in
    (ap (λ (h : StreamHeaders AnyEndian). h.ehdr.e_machine) (is.headers ∙ sym headers), subst (λ f. SameLinks f (loaded_part any_is_little closed)) file part)

first_or : (first other : Result (FileView AnyEndian) ParseError) (v : FileView AnyEndian) → first ≡ Ok v → or_other first other ≡ Ok v
first_or first other v h = ap (λ r. or_other r other) h

other_or : (first other : Result (FileView AnyEndian) ParseError) (v : FileView AnyEndian) → IsErr first → other ≡ Ok v → or_other first other ≡ Ok v
other_or (Ok x) other v lost h = absurd (cc lost)
other_or (Err e) other v lost h = ap (λ r. or_other (Err e) r) h

-- a file that was opened so is the one that the bytes are
linked_as : (bytes : List ℕ) (by_segments : Bool) (v : FileView AnyEndian) → (by_segments ≡ true → IsErr (opened_file any_is_little any_of_byte bytes)) → opened_as any_is_little any_of_byte by_segments bytes ≡ Ok v → linked_file bytes ≡ Ok v
linked_as bytes true v lost h = other_or (opened_file any_is_little any_of_byte bytes) (opened_by_segments any_is_little any_of_byte bytes) v (lost refl) h
linked_as bytes false v lost h = first_or (opened_file any_is_little any_of_byte bytes) (opened_by_segments any_is_little any_of_byte bytes) v h

linked_to : (bytes : List ℕ) (by_segments : Bool) (headers : StreamHeaders AnyEndian) (file : StreamView AnyEndian) → (by_segments ≡ true → IsErr (opened_file any_is_little any_of_byte bytes)) → ok_map headers_of (opened_as any_is_little any_of_byte by_segments bytes) ≡ Ok headers
    → ((v : FileView AnyEndian) → v.bytes ≡ bytes → headers ≡ headers_of v → IsPartOf v (open_at [] file)) → IsLinkedTo bytes file
linked_to bytes by_segments headers file lost opening part =
    let found = headers_are (opened_as any_is_little any_of_byte by_segments bytes) headers opening in
    let whole = (opened_as_is any_is_little any_of_byte by_segments bytes found.0 found.1).same in
    (found.0, linked_as bytes by_segments found.0 lost found.1, part found.0 whole (sym found.2))

-- what is loaded of a stream that was opened so
abbrev pub IsLinkedBy : Bool → List ℕ → StreamView AnyEndian → Type 0
IsLinkedBy true bytes file = IsErr (opened_file any_is_little any_of_byte bytes) → IsLinkedTo bytes file
IsLinkedBy false bytes file = IsLinkedTo bytes file

linked_by : (bytes : List ℕ) (by_segments : Bool) (headers : StreamHeaders AnyEndian) (file : StreamView AnyEndian) → ok_map headers_of (opened_as any_is_little any_of_byte by_segments bytes) ≡ Ok headers
    → ((v : FileView AnyEndian) → v.bytes ≡ bytes → headers ≡ headers_of v → IsPartOf v (open_at [] file)) → IsLinkedBy by_segments bytes file
linked_by bytes true headers file opening part = λ lost. linked_to bytes true headers file (λ _. lost) opening part
linked_by bytes false headers file opening part = linked_to bytes false headers file (λ by. absurd (cc by)) opening part

pub loaded_by : (source : Option (List ℕ)) (by_segments : Bool) (before : ℕ) (s : StreamView AnyEndian) (r : Result (StreamView AnyEndian) ParseError) → s.content ≡ source
    → IfSome source (λ bytes. (s.failures ≡ before) × (ok_map headers_of (opened_as any_is_little any_of_byte by_segments bytes) ≡ Ok s.headers))
    → IfOk r (λ file. IfSome s.content (λ bytes. (v : FileView AnyEndian) → v.bytes ≡ bytes → s.headers ≡ headers_of v → IsPartOf v (open_at [] file)))
    → IfOk r (λ file. IfSome source (λ bytes. IsLinkedBy by_segments bytes file))
loaded_by source by_segments before s (Err e) same opening parts = tt
loaded_by source by_segments before s (Ok file) same opening parts =
    when_known source _ (λ bytes known.
    let headers = if_known source bytes _ opening known in
    linked_by bytes by_segments s.headers file headers.1 (if_known s.content bytes _ parts (same ∙ known)))

-- without section headers the bytes are no ELF file, or the one that their segments give
pub no_file : (bytes : List ℕ) (e : ParseError) → opened_file any_is_little any_of_byte bytes ≡ Err e → IsErr (opened_by_segments any_is_little any_of_byte bytes) → linked_file bytes ≡ Err e
no_file bytes e h lost = neither (opened_file any_is_little any_of_byte bytes) (opened_by_segments any_is_little any_of_byte bytes) e h lost

-- ---- what becomes of a file

pub file_loaded : (path : List ℕ) (s : StreamView AnyEndian) (content : Option (List ℕ)) → IsLoadedFrom content (Some (Ok s)) → IsOpeningOf content (Loaded (open_at path s))
file_loaded path s None h = absurd (cc h)
file_loaded path s (Some bytes) h = subst (λ r. IsOpeningBy r (Loaded (open_at path s))) (sym h.1) (open_at path s, h.2, refl)

pub file_refused : (path : List ℕ) (e : ParseError) (content : Option (List ℕ)) → IsLoadedFrom content (Some (Err e)) → IsOpeningOf content (Refused path e)
file_refused path e None h = absurd (cc h)
file_refused path e (Some bytes) h = subst (λ r. IsOpeningBy r (Refused path e)) (sym h) (path, refl)

pub file_gone : (path : List ℕ) (content : Option (List ℕ)) → IsLoadedFrom content None → IsOpeningOf content (Gone path)
file_gone path None h = (path, refl)
file_gone path (Some bytes) h = absurd h

-- it is the file of the object
pub of_file : (known : Known) (file : Option LoadedFile) (loaded : LoadedFile) (opening : Opening) → file ≡ Some loaded → IsOpeningIf known (Some (found_view loaded)) opening → IsOpeningIf known (option_map found_view file) opening
of_file known file loaded opening is h = rw is h
