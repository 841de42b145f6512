-- The tables of a stream are those that the opening of its content gives.
use Rattle.std.proofs.Common.{◌≡◌, ℕ, Bool, List, refl, ap, Option, Some, None, IfSome}
use Rattle.std.specs.Prelude.{Result, Ok, Err}
use Rattle.elf_records.specs.Number.{ok_map}
use Rattle.elf_records.specs.declared.parse.ParseError.{ParseError}
use Rattle.elf_reading.specs.Opening.{StreamHeaders, FileView, headers_of}
use Rattle.elf.specs.ElfStream.{IsOfFile, StreamView, opened_as}
use Rattle.elf.specs.inner.Opened.{AreTables}

abbrev as_ok : {A : Type 0} → A → Result A ParseError
as_ok a = Ok a

ok_is : {A : Type 0} (a b : A) → as_ok a ≡ as_ok b → b ≡ a
ok_is a b h = cc

no_ok : {A E : Type 0} (e : E) (a : A) → Err e ≡ Ok a → ⊥
no_ok e a h = cc

headers_found : {E : Type 0} (r : Result (FileView E) ParseError) (headers : StreamHeaders E) → ok_map headers_of r ≡ Ok headers → (v : FileView E) × (r ≡ Ok v) × (headers ≡ headers_of v)
headers_found (Ok v) headers h = (v, refl, ok_is (headers_of v) headers h)
headers_found (Err e) headers h = absurd (no_ok e headers h)

tables_at : {E : Type 0} (little : E → Bool) (of_byte : ℕ → Option E) (by_segments : Bool) (bytes : List ℕ) (headers : StreamHeaders E) → ok_map headers_of (opened_as little of_byte by_segments bytes) ≡ Ok headers
    → AreTables little of_byte by_segments bytes headers.declares_sections headers.sections headers.segments
tables_at little of_byte by_segments bytes headers h =
    let found = headers_found (opened_as little of_byte by_segments bytes) headers h in (
      found.0,
      found.1,
      ap (λ x. x.declares_sections) found.2,
      ap (λ x. x.sections) found.2,
      ap (λ x. x.segments) found.2,
    )

-- the opening gave these headers
pub tables : {E : Type 0} (little : E → Bool) (of_byte : ℕ → Option E) (by_segments : Bool) (known : Option (List ℕ)) (before now : ℕ) (headers : StreamHeaders E)
    → IfSome known (λ bytes. (now ≡ before) × (ok_map headers_of (opened_as little of_byte by_segments bytes) ≡ Ok headers))
    → IfSome known (λ bytes. AreTables little of_byte by_segments bytes headers.declares_sections headers.sections headers.segments)
tables little of_byte by_segments None before now headers h = tt
tables little of_byte by_segments (Some bytes) before now headers h = tables_at little of_byte by_segments bytes headers h.1

of_file_at : {E : Type 0} (little : E → Bool) (of_byte : ℕ → Option E) (bytes : List ℕ) (s : StreamView E) → AreTables little of_byte s.by_segments bytes s.headers.declares_sections s.headers.sections s.headers.segments → IsOfFile little of_byte bytes s
of_file_at little of_byte bytes s t = (t.0, t.1, rw (t.2, t.3, t.4) refl)

pub of_file : {E : Type 0} (little : E → Bool) (of_byte : ℕ → Option E) (known : Option (List ℕ)) (s : StreamView E) → IfSome known (λ bytes. AreTables little of_byte s.by_segments bytes s.headers.declares_sections s.headers.sections s.headers.segments) → IfSome known (λ bytes. IsOfFile little of_byte bytes s)
of_file little of_byte None s h = tt
of_file little of_byte (Some bytes) s h = of_file_at little of_byte bytes s h
