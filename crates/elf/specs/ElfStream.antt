-- What contracts see of an `ElfStream`, and what a call of it leaves and answers.
use Rattle.std.specs.List.{filter}
use Rattle.std.specs.Prelude.{◌≡◌, ℕ, ◌+◌, ◌^◌, ◌⊎◌, ◌&&◌, Bool, true, false, IsTrue, List, [], ◌∷◌, length, map, nat_le, nat_lt}
use Rattle.std.specs.Prelude.{Option, None, Result, Ok, Err, IfSome, OnOk, IfErr, IsOk, IsErr}
use Rattle.elf_records.specs.Number.{bytes_at}
use Rattle.elf_records.specs.declared.parse.ParseError.{ParseError}
use Rattle.elf_reading.specs.Opening.{opened_by_segments, opened_file}
use Rattle.elf.specs.ElfBytes.{with_header}
use Rattle.elf_reading.specs.Opening.{StreamHeaders, FileView, headers_of}
use Rattle.elf_reading.specs.Cache.{Piece, is_cached}
use Rattle.elf_reading.specs.Refusals.{AllocationFailure, HasReason, IsAnswer, Kind, MayRefuse, Refusal, SourceFailure}
use Rattle.elf_reading.specs.Refusals.{kind}

-- a stream: the content of its source, if known, whether the source can fail and how often it did; whether it was opened
-- by its segments alone; its headers; and the ranges of the source that are cached, each by its start and its end
pub record StreamView (E : Type 0) : Type 0 where
  pub content : Option (List ℕ)
  pub can_fail : Bool
  pub failures : ℕ
  pub by_segments : Bool
  pub headers : StreamHeaders E
  pub cached : List (ℕ × ℕ)
  -- its length, and the bytes that are cached
  pub size : ℕ
  pub parts : List Piece

-- ---- its headers

-- the file that the bytes hold, opened by its segments alone or with both tables
abbrev pub opened_as : {E : Type 0} → (E → Bool) → (ℕ → Option E) → Bool → List ℕ → Result (FileView E) ParseError
opened_as little of_byte true bytes = opened_by_segments little of_byte bytes
opened_as little of_byte false bytes = opened_file little of_byte bytes

-- the stream is of the file that these bytes hold: its tables are those that the opening gives, whatever header is
-- in it now
abbrev pub IsOfFile : {E : Type 0} → (E → Bool) → (ℕ → Option E) → List ℕ → StreamView E → Type 0
IsOfFile {E} little of_byte bytes s =
    (v : FileView E) × (opened_as little of_byte s.by_segments bytes ≡ Ok v)
    × (s.headers ≡ headers_of (with_header v s.headers.ehdr))

-- ---- which ranges are cached

-- the bytes from start to end lie within one of the cached ranges
abbrev pub IsCached : {E : Type 0} → StreamView E → ℕ → ℕ → Type 0
IsCached s start end = IsTrue (is_cached s.cached start end)

-- each of these ranges, given by its start and its size, is cached
abbrev pub AreCached : {E : Type 0} → StreamView E → List (ℕ × ℕ) → Type 0
AreCached s [] = Unit {0}
AreCached s (r ∷ rs) = IsCached s r.0 (r.0 + r.1) × AreCached s rs

-- the bytes from start to end lie within one of these ranges, each given by its start and its size
abbrev pub IsRequested : List (ℕ × ℕ) → ℕ → ℕ → Type 0
IsRequested requested start end = IsTrue (is_cached (map (λ r. (r.0, r.0 + r.1)) requested) start end)

-- the same file, and no range that was cached is lost
pub record Keeps {E : Type 0} (old new : StreamView E) : Type 0 where
  pub content : new.content ≡ old.content
  pub can_fail : new.can_fail ≡ old.can_fail
  pub by_segments : new.by_segments ≡ old.by_segments
  pub headers : new.headers ≡ old.headers
  pub size : new.size ≡ old.size
  pub cached : (start end : ℕ) → IsCached old start end → IsCached new start end

-- the same headers and the same cached bytes, over a source that is closed
pub record IsClosed {E : Type 0} (old new : StreamView E) : Type 0 where
  pub by_segments : new.by_segments ≡ old.by_segments
  pub headers : new.headers ≡ old.headers
  pub cached : new.cached ≡ old.cached
  pub size : new.size ≡ old.size
  pub parts : new.parts ≡ old.parts
  pub content : new.content ≡ None

-- ---- what a call leaves

-- the ranges up to the first that is not cached lie in the bytes: the source and memory are needed for that one
abbrev pub IsNeeded : {E : Type 0} → List ℕ → StreamView E → List (ℕ × ℕ) → Type 0
IsNeeded bytes s [] = ⊥
IsNeeded bytes s (r ∷ rs) = IsOk (bytes_at r.1 bytes r.0) × (IsCached s r.0 (r.0 + r.1) → IsNeeded bytes s rs)

-- the source or an allocation fails only if the source or memory is needed
abbrev pub IsFor : Type 0 → Kind → Type 0
IsFor need SourceFailure = need
IsFor need AllocationFailure = need
IsFor need Refusal = Unit {0}

-- What a call leaves that requests these ranges, whatever it answers: the same file, no cached range lost, and after an
-- Ok the requested ranges are cached. No range is cached that was not cached before and does not lie within a requested
-- one. If the requested ranges were cached before, as they are if none is requested, the source and memory are not
-- touched: the stream is as it was, and an error is the content's. Else they are used only for a range that lies in the
-- content.
pub record Left {E T : Type 0} (requested : List (ℕ × ℕ))
    (old new : StreamView E) (r : Result T ParseError) : Type 0 where
  pub keeps : Keeps old new
  pub loaded : OnOk r (AreCached new requested)
  pub only : (start end : ℕ) → IsCached new start end → IsCached old start end ⊎ IsRequested requested start end
  pub untouched : AreCached old requested → (new ≡ old) × IfErr r (λ e. kind e ≡ Refusal)
  pub needed : IfSome old.content (λ bytes. IfErr r (λ e. IsFor (IsNeeded bytes new requested) (kind e)))

-- The same of a call whose answer over a content is given: its answer is the content's. So it is an Ok if that is one
-- and the requested ranges were cached before.
pub record Leaves {E T Y : Type 0} (requested : List (ℕ × ℕ)) (shown : T → Y)
    (answer : List ℕ → Result Y ParseError) (old new : StreamView E) (r : Result T ParseError) : Type 0 where
  pub left : Left requested old new r
  pub answers : IfSome old.content (λ bytes. IsAnswer shown (answer bytes) old.can_fail old.failures new.failures r)

-- whether a range lies in a source of this length
abbrev pub lies_in : ℕ → ℕ × ℕ → Bool
lies_in size r = nat_lt (r.0 + r.1) (2 ^ 64) && nat_le (r.0 + r.1) size

-- What a call leaves that loads those of these ranges that lie in the source. An error is a failure of the source or of
-- an allocation.
pub record LoadsRanges {E : Type 0} (ranges : List (ℕ × ℕ)) (old new : StreamView E)
    (r : Result (Unit {0}) ParseError) : Type 0 where
  pub left : Left (filter (lies_in old.size) ranges) old new r
  pub size : IfSome old.content (λ bytes. old.size ≡ length bytes)
  pub reason : IfSome old.content (λ bytes. HasReason old.failures new.failures old.can_fail ⊥ r)

-- ---- what an opening answers

-- a stream with the headers that the content gives, over a source that did not fail; or an error
abbrev pub IsOpening :
    {E : Type 0} → Result (StreamHeaders E) ParseError → Bool → ℕ → Result (StreamView E) ParseError → Type 0
IsOpening answer can_fail before (Ok s) = (s.failures ≡ before) × (answer ≡ Ok s.headers)
IsOpening answer can_fail before (Err e) = MayRefuse can_fail (IsOk answer) (IsErr answer) (kind e)
