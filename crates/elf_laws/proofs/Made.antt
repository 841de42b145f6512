-- The calls of a stream are calls of the law of both readers.
use Rattle.std.proofs.Common.{◌≡◌, ℕ, Bool, [], ◌∷◌, Result, Ok, Err, refl, sym, ap, length, subst}
use Rattle.std.specs.Prelude.{is_err}
use Rattle.std.specs.List.{filter}
use Rattle.elf_records.specs.Number.{ok_map}
use Rattle.elf_records.specs.declared.file.FileHeader.{FileHeader}
use Rattle.elf_records.specs.declared.parse.ParseError.{ParseError}
use Rattle.elf_reading.specs.Opening.{FileView}
use Rattle.elf.specs.ElfStream.{Leaves, StreamView}
use Rattle.elf.specs.Ranges.{headers_alone}
use Rattle.elf.specs.Readers.{Call, Method, Shown, answer, requested_ranges}
use Rattle.elf.specs.StreamFile.{stream_file}
use Rattle.elf_laws.specs.Asked.{Tells, WasCalled, WasMade, method_of}
use Rattle.elf_laws.specs.declared.asked.Asked.{Asked}
use Rattle.elf_laws.specs.declared.asked.Told.{Told}

-- a method whose result has a view was called
pub was_called : {E T : Type 0} (little : E → Bool) (old new : StreamView E) (m : Method) (shown : T → Shown m) (whole : Result T ParseError) (r : Result (Unit {0}) ParseError)
    → Leaves (requested_ranges m (headers_alone little old)) shown (λ bytes. answer m (stream_file little old bytes)) old new whole → ok_map (λ _. tt) whole ≡ r → WasCalled little old m new r
was_called little old new m shown (Ok x) r h is = (
  Ok (shown x),
  is,
  record {
    left = record { keeps = h.left.keeps; loaded = h.left.loaded; only = h.left.only; untouched = h.left.untouched; needed = h.left.needed };
    answers = h.answers;
  },
)
was_called little old new m shown (Err e) r h is = (
  Err e,
  is,
  record {
    left = record { keeps = h.left.keeps; loaded = h.left.loaded; only = h.left.only; untouched = h.left.untouched; needed = h.left.needed };
    answers = h.answers;
  },
)

-- whether a call returned an error, as a number
abbrev pub errors_in : {A : Type 0} → Result A ParseError → ℕ
errors_in (Ok x) = 0
errors_in (Err e) = 1

module _ {E : Type 0} (little : E → Bool) where
  -- the method that was called is the one that was asked for
  pub was_asked : (old new : StreamView E) (r : Result (Unit {0}) ParseError) {asked one : Asked} → asked ≡ one → WasCalled little old (method_of one) new r → WasCalled little old (method_of asked) new r
  was_asked old new r is h = subst (λ asked. WasCalled little old (method_of asked) new r) (sym is) h

  pub told_as_asked : (v : FileView E) (r : Result (Told E) ParseError) {asked one : Asked} → asked ≡ one → Tells little v (method_of one) r → Tells little v (method_of asked) r
  told_as_asked v r is h = subst (λ asked. Tells little v (method_of asked) r) (sym is) h

  pub was_made : (old new : StreamView E) (header : FileHeader E) (m : Method) (r : Result (Unit {0}) ParseError)
      → WasCalled little (record old { headers = record old.headers { ehdr = header } }) m new r → WasMade little old header m new r
  was_made old new header m r h = (h.0, h.1, (h.2, tt))

  -- ---- one call among others

  pub one_counted : (call : Call E) (r : Result (Unit {0}) ParseError) → ok_map (λ _. tt) call.result ≡ r → length (filter (λ (call : Call E). is_err call.result) (call ∷ [])) ≡ errors_in r
  one_counted call r is = counted_by call call.result r is refl
    where
      counted_by : (call : Call E) (result : Result (Shown call.method) ParseError) (r : Result (Unit {0}) ParseError) → ok_map (λ _. tt) result ≡ r → call.result ≡ result → length (filter (λ (call : Call E). is_err call.result) (call ∷ [])) ≡ errors_in r
      counted_by call (Ok x) r is same = rw same (ap errors_in is)
      counted_by call (Err e) r is same = rw same (ap errors_in is)
